pub mod DecidedTextLemmas
pub mod GatheringLemmas
pub mod HexDigitLemmas
pub mod HexInLemmas
pub mod HexTextLemmas
pub mod JoinedTextLemmas
pub mod Laws
pub mod WhiteSpaceLemmas
