-- How a survey ends: with all its lines, or with the first of them because memory ran out.
use Rattle.std.proofs.Common.{◌≡◌, ◌⊎◌, ◌∙◌, ℕ, Bool, List, IfErr, IfOk, OnOk, Result, Ok, Err, ap, inl, inr, refl}
use Rattle.std.specs.Prelude.{OnErr}
use Rattle.fv_base.specs.declared.fault.Fault.{Fault}
use Rattle.fv_command.specs.Words.{survey_status}
use Rattle.fv_command.specs.declared.status.Status.{Status}
use Rattle.fv_command.specs.declared.status.Status.TheVariants.{Incomplete}

pub survey_ends : {S : Type 0} (takes : S → List ℕ → S → Type 0) (s t : S) (r : Result Bool Fault) (status : Status) (clean : Bool)
    → (whole : List ℕ) (front : ℕ → List ℕ) → OnOk r (takes s whole t) → IfOk r (λ c. c ≡ clean)
    → OnErr r ((n : ℕ) × takes s (front n) t) → IfOk r (λ c. status ≡ survey_status c) → IfErr r (λ _. status ≡ Incomplete)
    → (text : List ℕ) × (((status ≡ survey_status clean) × (text ≡ whole)) ⊎ ((status ≡ Incomplete) × ((n : ℕ) × (text ≡ front n))))
    × takes s text t
survey_ends takes s t (Ok c) status clean whole front put is cut ends stops = (whole, inl (ends ∙ ap survey_status is, refl), put)
survey_ends takes s t (Err f) status clean whole front put is cut ends stops = (front cut.0, inr (stops, (cut.0, refl)), cut.1)
