-- Writes one after another.
use Rattle.std.proofs.Common.{◌≡◌, ℕ, zero, suc, ◌<◌, List, [], ◌∷◌, length, get_or, take, map, refl, sym, ap, subst, arith}
use Rattle.std.specs.Prelude.{Option, Some, None}
use Rattle.sx_outside.specs.Files.{Files, put, after_writes}
use Rattle.sx_outside.specs.Told.{Told}
use Rattle.sx_steps.specs.Work.{file_of}
use Rattle.sx_top.specs.Course.{name_at}
use Rattle.sx_steps.specs.declared.work.Output.{Output}

-- what was told goes on
pub told_then : {A : Type 0} (R Q T : A → A → Type 0) (first second third : Option A) → Told R first second → Told Q second third → ((x y z : A) → R x y → Q y z → T x z) → Told T first third
told_then R Q T (Some x) (Some y) (Some z) r q goes = goes x y z r q
told_then R Q T (Some x) (Some y) None r q goes = q
told_then R Q T (Some x) None third r q goes = absurd r
told_then R Q T None second third r q goes = tt

pub told_same : {A : Type 0} (R : A → A → Type 0) (first second : Option A) → second ≡ first → ((x : A) → R x x) → Told R first second
told_same R first second same holds = subst (λ (o : Option _). Told R first o) (sym same) (at first)
  where
    at : (o : Option _) → Told R o o
    at (Some x) = holds x
    at None = tt

-- what was told is so related, and more follows of it
pub told_goes : {A : Type 0} (R T : A → A → Type 0) (first second : Option A) → Told R first second → ((x y : A) → first ≡ Some x → R x y → T x y) → Told T first second
told_goes R T (Some x) (Some y) r goes = goes x y refl r
told_goes R T (Some x) None r goes = r
told_goes R T None second r goes = tt

-- one write more
pub after_more : (outputs : List Output) (i : ℕ) (output : Output) (old : Files) → i < length outputs → output ≡ get_or outputs i output → after_writes (take (suc i) (map file_of outputs)) old ≡ put (after_writes (take i (map file_of outputs)) old) output.name output.bytes.items
after_more [] i output old below is = absurd (omega arith)
after_more (first ∷ outputs) zero output old below is = ap (λ (o : Output). put old o.name o.bytes.items) (sym is)
after_more (first ∷ outputs) (suc i) output old below is = after_more outputs i output (put old first.name first.bytes.items) (omega arith) is

-- the name of the output with this number
pub name_there : (outputs : List Output) (i : ℕ) (output : Output) → i < length outputs → output ≡ get_or outputs i output → name_at (map file_of outputs) i ≡ output.name
name_there [] i output below is = absurd (omega arith)
name_there (first ∷ outputs) zero output below is = ap (λ (o : Output). o.name) (sym is)
name_there (first ∷ outputs) (suc i) output below is = name_there outputs i output (omega arith) is
