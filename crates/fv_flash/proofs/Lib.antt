pub mod DecidedScanLaws
pub mod Laws
pub mod ScanLaws
