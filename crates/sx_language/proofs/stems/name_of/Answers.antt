use Rattle.std.proofs.Common.{Ok, Err, Result, sym, subst}
use Rattle.std.specs.Prelude.{IfOk}
use Rattle.sx_term.specs.declared.sort.Sort.{Sort}
use Rattle.sx_term.specs.declared.sort.Sort.TheVariants as TheSort
use Rattle.sx_language.specs.States.{IsSortNamed}
use Rattle.sx_language.proofs.StemLines.{number_low, line_named}
use Rattle.sx_language.proofs.stems.name_of.Goals as goal

ok_map : {T E : Type 0} (r : Result T E) (P Q : T → Type 0) → ((x : T) → P x → Q x) → IfOk r P → IfOk r Q
ok_map (Ok x) P Q f h = f x h
ok_map (Err e) P Q f h = tt

pub line_name-requires : goal.line_name-requires
line_name-requires c =
    let named = subst (IsSortNamed c.args.grammar.now.parts c.requires.0) c.in-Plain.is c.requires.1 in
    number_low c.args.grammar.now.parts c.requires.0 (TheSort.Plain c.in-Plain.number) (λ kind e. cc) named

pub returns-in-Plain : goal.returns-in-Plain
returns-in-Plain c =
    let p = c.args.grammar.now.parts in
    let named = subst (IsSortNamed p c.requires.0) c.in-Plain.is c.requires.1 in
    subst (λ (s : Sort). IfOk c.line_name.result (λ t. IsSortNamed p t s)) (sym c.in-Plain.is)
    (ok_map c.line_name.result _ _ (λ t at. line_named p c.requires.0 (TheSort.Plain c.in-Plain.number) (λ kind e. cc) named t at) c.line_name.ensures)

pub line_name-requires-in-Typed : goal.line_name-requires-in-Typed
line_name-requires-in-Typed c =
    let named = subst (IsSortNamed c.args.grammar.now.parts c.requires.0) c.in-Typed.is c.requires.1 in
    number_low c.args.grammar.now.parts c.requires.0 (TheSort.Typed c.in-Typed.number) (λ kind e. cc) named

pub returns-in-Typed : goal.returns-in-Typed
returns-in-Typed c =
    let p = c.args.grammar.now.parts in
    let named = subst (IsSortNamed p c.requires.0) c.in-Typed.is c.requires.1 in
    subst (λ (s : Sort). IfOk c.line_name-in-Typed.result (λ t. IsSortNamed p t s)) (sym c.in-Typed.is)
    (ok_map c.line_name-in-Typed.result _ _ (λ t at. line_named p c.requires.0 (TheSort.Typed c.in-Typed.number) (λ kind e. cc) named t at) c.line_name-in-Typed.ensures)
