-- What holds of core files.
use Rattle.std.specs.Prelude.{◌≡◌, ◌≢◌, ℕ, List, Result, Err}
use Rattle.sx_lines.specs.Lines.{Lines}
use Rattle.sx_core.specs.File.{CoreFile}
use Rattle.sx_core.specs.Problem.{Problem}
use Rattle.sx_core.specs.Stated.{StatesProblem}
use Rattle.sx_core.specs.CoreRead.{AreLinesOf, IsCoreAnswer}
use Rattle.sx_core.specs.declared.error.CoreFileError.{CoreFileError}
use Rattle.sx_core.specs.declared.error.CoreFileError.TheVariants.{Memory}

-- lines state one problem at most
abbrev pub OneProblemIsStated : Type 0
OneProblemIsStated = (lines : Lines) (f g : CoreFile) (p q : Problem) → AreLinesOf lines f →
    AreLinesOf lines g → StatesProblem f p → StatesProblem g q → p ≡ q

-- two answers for the bytes of a core file agree, out of memory aside
abbrev pub OneCoreAnswer : Type 0
OneCoreAnswer = (bytes : List ℕ) (a b : Result Problem CoreFileError) → IsCoreAnswer bytes a →
    IsCoreAnswer bytes b → (a ≢ Err Memory) → (b ≢ Err Memory) → a ≡ b
