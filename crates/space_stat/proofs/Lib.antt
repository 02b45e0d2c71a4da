pub mod NoneGone
