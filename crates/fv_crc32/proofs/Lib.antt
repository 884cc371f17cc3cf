mod ChangeLemmas
mod TableLemmas
