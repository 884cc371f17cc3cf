-- Which files a command names.
use Rattle.std.specs.Prelude.{Option, Some, None, String, option_map}
use Rattle.std.specs.Global.{Global}
use Rattle.fv_plan.specs.declared.plan.Command.{Command}
use Rattle.fv_plan.specs.declared.plan.Command.TheVariants.{Single, Hobs, Open, Compare, Same}

-- the file of a command's first input, or None for standard input
abbrev pub first_file : Command → Option (String Global)
first_file (Single task at file) = file
first_file (Hobs file image) = file
first_file (Open path at file) = file
first_file (Compare first second) = Some first.path
first_file (Same first second) = Some first

-- the file of a command's second input, if it has one: the image for a hand-off list, or the second of two volumes or
-- of two images
abbrev pub second_file : Command → Option (String Global)
second_file (Single task at file) = None
second_file (Hobs file image) = option_map (λ i. i.path) image
second_file (Open path at file) = None
second_file (Compare first second) = Some second.path
second_file (Same first second) = Some second
