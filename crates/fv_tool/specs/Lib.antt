-- The files of definitions, in the order in which they can be read.
pub mod ArgumentRejections
pub mod ProgramRuns
