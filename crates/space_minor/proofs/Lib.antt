pub mod FirstScanLaws
pub mod MinorMarks
