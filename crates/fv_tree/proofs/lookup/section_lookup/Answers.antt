use Rattle.std.proofs.Common.{◌≡◌, rules, ◌==◌, ◌∙◌, Bool, sym, tests}
use Rattle.fv_base.proofs.Laws.{YieldsList-from_filter, YieldsList-from_first}
use Rattle.std.proofs.lemmas.Iterator.Adapters.{option_map_id}
use Rattle.fv_tree.specs.Words.{section_of_type, SectionMeaning, content_of, section_kind_of, sections_in_data}
use Rattle.fv_tree.proofs.LookupLaws.{numbered_is}
use Rattle.fv_tree.proofs.lookup.section_lookup.Goals.{After-numbered}
use Rattle.fv_tree.proofs.lookup.section_lookup.Goals as goal

-- the numbered section is the instance of the type among the sections in the file's data
found : (c : After-numbered) → c.numbered.result
    ≡ section_of_type c.args.kind c.args.instance (sections_in_data (content_of c.args.file.now))
found c =
    let test : SectionMeaning → Bool = λ s. section_kind_of s == c.args.kind in
    sym (option_map_id _) ∙ numbered_is _ c.args.instance c.numbered.ensures.zero c.numbered.ensures.nth (YieldsList-from_filter _ test
    (YieldsList-from_first (λ s. s) (λ left. left) _ (cc)) c.filter-sections.ensures.closure (λ x r q k. search (rules, tests)))

pub returns-in-Some : goal.returns-in-Some
returns-in-Some c = sym (found (goal.at.returns-in-Some c).After-numbered) ∙ c.in-Some.is

pub returns-in-None : goal.returns-in-None
returns-in-None c = sym (found (goal.at.returns-in-None c).After-numbered) ∙ c.in-None.is
