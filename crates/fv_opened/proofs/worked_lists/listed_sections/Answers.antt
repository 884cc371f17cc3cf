use Rattle.std.proofs.Common.{[], inl, refl}
use Rattle.std.specs.Fmt.{digits}
use Rattle.hex.specs.Hex.{encode_with}
use Rattle.fv_opened.proofs.WorkedListLemmas.{inner_accepted, leaf_line, none_accepted, one_empty}
use Rattle.fv_opened.proofs.worked_lists.listed_sections.Goals as goal

pub returns-clause-none : goal.returns-clause-none
unfolding digits
returns-clause-none c = inl (_, inl (_, 0, none_accepted, ([], (refl, refl), refl)), refl)

pub returns-clause-one : goal.returns-clause-one
unfolding digits encode_with
returns-clause-one c =
    inl (_, inl (_, 0, one_empty, (_, (_, _, [], (leaf_line 1 0, refl), refl, (refl, refl)), refl)), refl)

pub returns-clause-inner : goal.returns-clause-inner
unfolding digits encode_with
returns-clause-inner c =
    inl (
      _,
      inl (
        _,
        0,
        inner_accepted,
        (
          _,
          (
            _,
            _,
            [],
            (
              _,
              inl (
                _,
                inl (
                  _,
                  0,
                  one_empty,
                  (_, (_, _, [], (leaf_line 3 0, refl), refl, (refl, refl)), refl),
                ),
                refl,
              ),
              refl,
            ),
            refl,
            (refl, refl),
          ),
          refl,
        ),
      ),
      refl,
    )
