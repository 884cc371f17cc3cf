-- Proves what is true of the input of a call that reads it as it is (`given`): it begins with the header of a volume
-- (`begins_with_header`), or has a frame (`begins_with_frame`), if the bytes that are read do.
use Rattle.std.proofs.Common.{◌≡◌, ℕ, Bool, List, true, false, subst}
use Rattle.fv_tree.specs.Words.{HasFrame}
use Rattle.fv_c.specs.ReadInputs.{IsRead}
use Rattle.fv_c.specs.Reports.{BeginsWithHeader}
use Rattle.fv_c.specs.declared.input.Form.{Form}
use Rattle.fv_c.specs.declared.input.Form.TheVariants as forms

given : (form : Form) (unmarked : Bool) (input bytes : List ℕ) → IsRead form unmarked input bytes → unmarked ≡ false → bytes ≡ input
given forms.Volume true input bytes read plain = cc
given forms.Volume false input bytes read plain = read
given forms.Stream true input bytes read plain = cc
given forms.Stream false input bytes read plain = read

pub begins_with_header : (unmarked : Bool) (input bytes : List ℕ) → IsRead forms.Volume unmarked input bytes → unmarked ≡ false
    → BeginsWithHeader bytes → BeginsWithHeader input
begins_with_header unmarked input bytes read plain begins = subst BeginsWithHeader (given forms.Volume unmarked input bytes read plain) begins

pub begins_with_frame : (unmarked : Bool) (input bytes : List ℕ) → IsRead forms.Stream unmarked input bytes → unmarked ≡ false
    → HasFrame bytes → HasFrame input
begins_with_frame unmarked input bytes read plain begins = subst HasFrame (given forms.Stream unmarked input bytes read plain) begins
