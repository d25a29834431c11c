-- What the measured passes presume.
mod Beginnings
