-- What holds of each operand where the numbers of a range are there.
use Rattle.c_tree.specs.Numbers.{Around as Range}
use Rattle.c_check.specs.declared.operands.Operand.{Operand}
use Rattle.c_check.specs.declared.operands.What.{What}
use Rattle.c_check.specs.declared.operands.What.TheVariants as what
use Rattle.range_laws.specs.Fits.{IsTree}

abbrev pub what_fits : Range → What → Type 0
what_fits a (what.Tree e) = IsTree a e
what_fits a (what.Intrinsic i) = Unit {0}

pub record IsOperand (a : Range) (o : Operand) : Type 0 where
  pub tree : what_fits a o.what
