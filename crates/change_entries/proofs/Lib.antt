-- What holds where nothing is refused.
pub mod AcceptedChanges
