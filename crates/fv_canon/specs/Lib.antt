-- The definitions in the order in which they can be read.
pub mod PlacedBytes
pub mod StoredFiles
pub mod Layouts
pub mod Image
pub mod InputRejections
pub mod Headline
pub mod LayoutFaults
pub mod ImageRules
pub mod LayoutForms
pub mod FlashImages
pub mod RenewedImages
pub mod ImageChecks
pub mod NormaliseRuns
pub mod PartDigests
pub mod WorkedInputs
pub mod Words
pub mod inner
