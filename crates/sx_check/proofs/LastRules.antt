-- The rules of the last extension are among all.
use Rattle.std.proofs.Common.{◌≡◌, ℕ, ◌≤◌, List, [], ◌∷◌, length, length-append, sym, subst, arith}
use Rattle.std.specs.Prelude.{Result, Ok}
use Rattle.sx_extcheck.specs.declared.budgets.Budgets.{Budgets}
use Rattle.sx_steps.specs.Steps.{Untried}
use Rattle.sx_steps.specs.declared.stop.Stop.{Stop}
use Rattle.sx_steps.proofs.StepsOn.{went_on}
use Rattle.sx_uses.specs.ExtensionFile.{Extension, extension_file}
use Rattle.sx_accepting.specs.ExtendedLanguages.{BaseLanguage, ExtendedData}
use Rattle.sx_accepting.specs.Extending.{ReadsAfter, Accepts, ExtendsBy, ExtendsLanguage}

abbrev HasLast : ExtendedData → Type 0
HasLast x = x.last ≤ length x.set.rules

last-here : (x y : ExtendedData) → (let r : Result ExtendedData Stop = Ok x in r) ≡ Ok y → HasLast y → HasLast x
last-here x y e h = let q : x ≡ y = cc in subst HasLast (sym q) h

by-one : (l : BaseLanguage) (b : Budgets) (file : Extension) (so_far x : ExtendedData) (tries : ℕ) → ExtendsBy l b file so_far (Ok x) tries → HasLast x
by-one l b file so_far x tries e =
    let w = went_on (Untried (ReadsAfter l so_far file)) (Accepts l b (extension_file file.header.name) so_far) x tries e in
    let n = length-append so_far.set.rules w.given.rules in
    subst HasLast (sym w.goes.2) (omega (arith, n))

pub last_among : (l : BaseLanguage) (b : Budgets) (files : List Extension) (so_far x : ExtendedData) (tries : ℕ) → HasLast so_far → ExtendsLanguage l b files so_far (Ok x) tries → HasLast x
last_among l b [] so_far x tries h e = last-here x so_far e.0 h
last_among l b (file ∷ files) so_far x tries h e =
    let w = went_on (ExtendsBy l b file so_far) (ExtendsLanguage l b files) x tries e in
    last_among l b files w.given x w.after (by-one l b file so_far w.given w.before w.begins) w.goes
