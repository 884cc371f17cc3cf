mod FilterLemmas
