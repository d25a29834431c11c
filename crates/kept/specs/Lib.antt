-- What a set keeps beside its numbers and lists, and the products by which it is worked out.
pub mod Kept
pub mod Products
