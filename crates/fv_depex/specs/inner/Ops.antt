-- The op at the start of some bytes, and the effect of ops on a stack of truth values. The first item of the stack is
-- its top.
use Rattle.std.specs.Prelude.{ℕ, ◌==◌, if◌then◌else◌, List, slice_index, ◌&&◌, ◌||◌, not, Bool, true, false, Option}
use Rattle.std.specs.Prelude.{None, Some, [], ◌∷◌, option_and_then}
use Rattle.fv_base.specs.Words.{guid_of, field}
use Rattle.fv_base.specs.declared.guid.Guid.{Guid}
use Rattle.fv_depex.specs.declared.op.Op.{Op}
use Rattle.fv_depex.specs.declared.op.Op.TheVariants as ops
use Rattle.fv_depex.specs.Expressions.{is_among}

-- the op with this code, and with this GUID if it carries one
abbrev pub op_by : ℕ → Guid → Op
op_by code g =
    if code == 0x00 then ops.Before g
    else (if code == 0x01 then ops.After g
    else (if code == 0x02 then ops.Push g
    else (if code == 0x03 then ops.And
    else (if code == 0x04 then ops.Or
    else (if code == 0x05 then ops.Not
    else (if code == 0x06 then ops.True
    else (if code == 0x07 then ops.False
    else (if code == 0x08 then ops.End else ops.Sor))))))))

-- the op at the start of r
abbrev pub op_in : List ℕ → Op
op_in r = op_by (slice_index r 0) (guid_of (field 1 16 r))

-- the stack after one op; None if the stack does not hold the values that the op takes, or if the op is BEFORE or
-- AFTER, which have no truth value
abbrev pub evaluate_op : List Guid → List Bool → Op → Option (List Bool)
evaluate_op set s (ops.Before g) = None
evaluate_op set s (ops.After g) = None
evaluate_op set s (ops.Push g) = Some (is_among g set ∷ s)
evaluate_op set s ops.True = Some (true ∷ s)
evaluate_op set s ops.False = Some (false ∷ s)
evaluate_op set (v ∷ s) ops.Not = Some (not v ∷ s)
evaluate_op set (v ∷ u ∷ s) ops.And = Some ((u && v) ∷ s)
evaluate_op set (v ∷ u ∷ s) ops.Or = Some ((u || v) ∷ s)
evaluate_op set s ops.End = Some s
evaluate_op set s ops.Sor = Some s
evaluate_op set s _ = None

-- whether the op pushes a value. END leaves the stack as it is, and so does SOR. BEFORE and AFTER have no value
abbrev pub pushes : Op → Bool
pushes (ops.Before g) = false
pushes (ops.After g) = false
pushes ops.End = false
pushes ops.Sor = false
pushes _ = true

-- the value on top of the stack, if there is one
abbrev pub top : List Bool → Option Bool
top [] = None
top (v ∷ s) = Some v

-- the value on top of the stack after all ops, if every op can be evaluated
abbrev pub evaluate_ops : List Guid → List Op → List Bool → Option Bool
evaluate_ops set [] s = top s
evaluate_ops set (o ∷ os) s = option_and_then (evaluate_ops set os) (evaluate_op set s o)
