-- What the reading of one line answers.
use Rattle.std.proofs.Common.{◌≡◌, ℕ, List, inr, refl}
use Rattle.sx_core.specs.TermsText.{RefusedAs}
use Rattle.sx_core.specs.Table.{IsKeyword}
use Rattle.sx_core.specs.Fitting.{IsFitting, IsDeepLine}
use Rattle.sx_core.specs.Reading.{context, IsCoreLineRead}
use Rattle.sx_core.specs.Order.{phase_of, at_start}
use Rattle.sx_core.specs.Machine.{IsUsual, StepRefused, NextRefused, step_error, line_error}
use Rattle.sx_core.specs.Machine.{keyword_of}
use Rattle.sx_core.specs.declared.reader.Reader.{Reader}
use Rattle.sx_core.specs.declared.step_error.StepError.{StepError}
use Rattle.sx_core.specs.declared.step_error.StepError.TheVariants.{Memory as NoRoom}
use Rattle.sx_core.specs.declared.step_error.StepError.TheVariants.{Order as OutOfOrder}
use Rattle.sx_core.specs.declared.stage.Stage.{Stage}
use Rattle.sx_core.specs.declared.stage.Stage.TheVariants.{Start, Declaring, Between, Premising}
use Rattle.sx_core.specs.declared.stage.Stage.TheVariants.{Concluded, Over}
use Rattle.sx_core.specs.declared.line_read.LineRead.{LineRead}
use Rattle.sx_core.specs.declared.keyword.Keyword.{Keyword}
use Rattle.sx_core.specs.declared.terms_row.RowError.{RowError}
use Rattle.sx_core.specs.declared.terms_row.RowError.TheVariants.{Memory, Shape, TooDeep}

pub step_refused : (r : Reader) (n : ℕ) (text : List ℕ) (x : LineRead) (e : StepError) → IsUsual r → IsCoreLineRead (context r.found) text x → StepRefused r (keyword_of x) e → NextRefused r n text (step_error n e)
step_refused r n text x NoRoom u i h = tt
step_refused r n text x OutOfOrder u i h = (refl, inr (u, x, i, h))

pub row_refused : (r : Reader) (n : ℕ) (text : List ℕ) (k : Keyword) (rest : List ℕ) (e : RowError) → IsUsual r → IsKeyword text k rest → RefusedAs (IsFitting (context r.found) text) (IsDeepLine (context r.found) text) e → NextRefused r n text (line_error n e)
row_refused r n text k rest Memory u i h = tt
row_refused r n text k rest Shape u i h = (refl, (u, k, rest, i, h))
row_refused r n text k rest (TooDeep depth) u i h = (refl, u, h)

pub start_phase : (s : Stage) → phase_of s ≡ at_start → s ≡ Start
start_phase Start e = refl
start_phase Declaring e = absurd cc
start_phase Between e = absurd cc
start_phase (Premising o) e = absurd cc
start_phase (Concluded o j) e = absurd cc
start_phase (Over g) e = absurd cc
