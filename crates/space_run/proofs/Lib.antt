mod WordsLemmas
mod Replaying
mod Inputs
mod Statuses
