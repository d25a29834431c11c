-- What the proof of `push_list` cites.
mod Listed
