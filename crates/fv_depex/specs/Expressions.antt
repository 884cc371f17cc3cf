-- Dependency expressions (PI specification, volume 1, section 5.7, and volume 2, section 10.7).
use Rattle.std.specs.Prelude.{◌≡◌, ℕ, ◌⊎◌, ◌&&◌, ◌||◌, not, nat_le, Bool, true, false, List, [], ◌∷◌, ◌++◌, length}
use Rattle.std.specs.List.{AllByRecursion, list_any}
use Rattle.std.specs.Str.{bytes_eq}
use Rattle.fv_base.specs.Words.{bytes_of}
use Rattle.fv_base.specs.declared.guid.Guid.{Guid}
use Rattle.fv_depex.specs.declared.op.Op.{Op}
use Rattle.fv_depex.specs.declared.op.Op.TheVariants as ops
use Rattle.fv_depex.specs.declared.op.Phase.{Phase}
use Rattle.fv_depex.specs.declared.op.Phase.TheVariants.{Dxe}

-- an expression is a tree: true, false, "this GUID is installed", not t, t and u, t or u
pub data Expression : Type 0 where
  always : Expression
  never : Expression
  installed : Guid → Expression
  negated : Expression → Expression
  both : Expression → Expression → Expression
  either : Expression → Expression → Expression

-- the ops of a tree in postfix order, operands first
abbrev pub postfix : Expression → List Op
postfix always = ops.True ∷ []
postfix never = ops.False ∷ []
postfix (installed g) = ops.Push g ∷ []
postfix (negated t) = postfix t ++ (ops.Not ∷ [])
postfix (both t u) = postfix t ++ (postfix u ++ (ops.And ∷ []))
postfix (either t u) = postfix t ++ (postfix u ++ (ops.Or ∷ []))

-- the ops are the tree t in postfix order, followed by END; if the phase is DXE, SOR may precede them
pub record IsTree (phase : Phase) (all : List Op) (t : Expression) : Type 0 where
  pub sor : List Op
  pub joined : all ≡ sor ++ (postfix t ++ (ops.End ∷ []))
  pub sor_is : (sor ≡ []) ⊎ ((sor ≡ ops.Sor ∷ []) × (phase ≡ Dxe))

-- the ops are BEFORE or AFTER with a GUID, followed by END, and the phase is DXE
pub record IsOrder (phase : Phase) (all : List Op) : Type 0 where
  pub guid : Guid
  pub joined : (all ≡ ops.Before guid ∷ ops.End ∷ []) ⊎ (all ≡ ops.After guid ∷ ops.End ∷ [])
  pub dxe : phase ≡ Dxe

-- the code of an op: EFI_DEP_BEFORE (0x00), EFI_DEP_AFTER, EFI_DEP_PUSH, EFI_DEP_AND, EFI_DEP_OR, EFI_DEP_NOT,
-- EFI_DEP_TRUE, EFI_DEP_FALSE, EFI_DEP_END, EFI_DEP_SOR (0x09)
abbrev pub op_code : Op → ℕ
op_code (ops.Before g) = 0x00
op_code (ops.After g) = 0x01
op_code (ops.Push g) = 0x02
op_code ops.And = 0x03
op_code ops.Or = 0x04
op_code ops.Not = 0x05
op_code ops.True = 0x06
op_code ops.False = 0x07
op_code ops.End = 0x08
op_code ops.Sor = 0x09

-- the bytes of the GUID that an op carries, if it carries one
abbrev pub op_operand : Op → List ℕ
op_operand (ops.Before g) = bytes_of g
op_operand (ops.After g) = bytes_of g
op_operand (ops.Push g) = bytes_of g
op_operand _ = []

-- the bytes of some ops: the code of each op, followed by its GUID if it carries one
abbrev pub ops_bytes : List Op → List ℕ
ops_bytes [] = []
ops_bytes (o ∷ os) = op_code o ∷ (op_operand o ++ ops_bytes os)

-- whether an op with this code carries a GUID
abbrev pub carries : ℕ → Bool
carries code = nat_le code 2

-- the length of an op's operand in bytes: 16 if the op carries a GUID, otherwise 0
abbrev pub operand_len : Bool → ℕ
operand_len true = 16
operand_len false = 0

-- the operand of the op o has the length that the op's code requires
abbrev pub IsSized : Op → Type 0
IsSized o = length (op_operand o) ≡ operand_len (carries (op_code o))

-- the bytes b spell these ops and this rest: b is the bytes of the ops followed by rest, and the ops are a complete
-- expression of the phase, each with an operand of the right length
pub record Spells (phase : Phase) (all : List Op) (rest b : List ℕ) : Type 0 where
  pub joined : b ≡ ops_bytes all ++ rest
  pub is_expression : ((t : Expression) × IsTree phase all t) ⊎ IsOrder phase all
  pub sized : AllByRecursion IsSized all

-- whether the GUID g is among the GUIDs of the set
abbrev pub is_among : Guid → List Guid → Bool
is_among g set = list_any (λ h. bytes_eq (bytes_of h) (bytes_of g)) set

-- the truth value of a tree when exactly these GUIDs are installed
abbrev pub truth : List Guid → Expression → Bool
truth set always = true
truth set never = false
truth set (installed g) = is_among g set
truth set (negated t) = not (truth set t)
truth set (both t u) = truth set t && truth set u
truth set (either t u) = truth set t || truth set u

-- a dependency expression: its phase, its ops up to END, and the bytes after END
pub record DepexForm : Type 0 where
  pub phase : Phase
  pub ops : List Op
  pub rest : List ℕ

-- some bytes spell this expression; this is true of every `Depex`
abbrev pub IsReadDepex : DepexForm → Type 0
IsReadDepex d = (b : List ℕ) × Spells d.phase d.ops d.rest b
