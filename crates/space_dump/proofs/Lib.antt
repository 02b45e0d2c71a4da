mod HexDigits
mod SentEvents
mod CompactLines
mod LineTexts
