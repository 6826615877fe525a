use Rattle.std.proofs.Common.{rules, ◌≡◌, ◌+◌, ◌<◌, ◌++◌, length, [], ◌∷◌, ℕ, List, get_or, sym, ap, ◌∙◌, subst}
use Rattle.sx_term.specs.declared.lex_kind.LexKind.TheVariants.{Id}
use Rattle.sx_term.specs.declared.role.Role.TheVariants.{In}
use Rattle.sx_term.specs.declared.sort.Sort.TheVariants.{Lex}
use Rattle.sx_rules.specs.declared.rule.Place.{Place}
use Rattle.sx_plain.specs.Views.{table_of}
use Rattle.sx_expand.proofs.RootPlaces.{PlacesSoFar, Takes, no-places, places-end, input-within, takes-input, output-within, takes-output, next-place, place-next}
use Rattle.sx_expand.proofs.root_places.root_numbers.Goals.{in-In, in-Out}
use Rattle.sx_expand.proofs.root_places.root_numbers.Goals as goal

pub loop-place-init : goal.loop-place-init
loop-place-init c = no-places (table_of c.args.table.now) c.args.places.now c.args.inputs.now c.args.read.now.outputs.items c.args.read.now.subject c.args.reader.now c.in_ok-numbers.numbers.items c.requires.reader c.in_ok-numbers.ensures.items

pub number_at-term-requires : goal.number_at-term-requires
number_at-term-requires c =
    let table = table_of c.args.table.now in
    let ps = c.args.places.now in
    let ins = c.args.inputs.now in
    let outs = c.args.read.now.outputs.items in
    let subject = c.args.read.now.subject in
    let start = c.args.reader.now in
    let i = c.loop-place.place-index in
    let given = c.loop-place.given in
    let made = c.loop-place.made in
    let now = c.loop-place.reader in
    let ns = c.loop-place.numbers.items in
    let so = c.loop-place.invariant in
    let l = c.loop-place-test.true in
    let d : Place = (record { role = In; sort = Lex Id }) in
    input-within table ps ins outs subject start i given made now ns so l d c.in-In.is c.requires.stand

pub overflow_add-given : goal.overflow_add-given
overflow_add-given c =
    let table = table_of c.args.table.now in
    let ps = c.args.places.now in
    let ins = c.args.inputs.now in
    let outs = c.args.read.now.outputs.items in
    let subject = c.args.read.now.subject in
    let start = c.args.reader.now in
    let i = c.loop-place.place-index in
    let given = c.loop-place.given in
    let made = c.loop-place.made in
    let now = c.loop-place.reader in
    let ns = c.loop-place.numbers.items in
    let so = c.loop-place.invariant in
    let l = c.loop-place-test.true in
    let d : Place = (record { role = In; sort = Lex Id }) in
    let n = input-within table ps ins outs subject start i given made now ns so l d c.in-In.is c.requires.stand in search (rules, n)

pub number_at-term-requires-in-Out : goal.number_at-term-requires-in-Out
number_at-term-requires-in-Out c =
    let table = table_of c.args.table.now in
    let ps = c.args.places.now in
    let ins = c.args.inputs.now in
    let outs = c.args.read.now.outputs.items in
    let subject = c.args.read.now.subject in
    let start = c.args.reader.now in
    let i = c.loop-place.place-index in
    let given = c.loop-place.given in
    let made = c.loop-place.made in
    let now = c.loop-place.reader in
    let ns = c.loop-place.numbers.items in
    let so = c.loop-place.invariant in
    let l = c.loop-place-test.true in
    let d : Place = (record { role = In; sort = Lex Id }) in
    subst (λ (xs : List ℕ). made < length xs) (sym c.deref.ensures.value) (output-within table ps ins outs subject start i given made now ns so l d c.in-Out.is c.requires.stand)

pub overflow_add-made : goal.overflow_add-made
overflow_add-made c =
    let table = table_of c.args.table.now in
    let ps = c.args.places.now in
    let ins = c.args.inputs.now in
    let outs = c.args.read.now.outputs.items in
    let subject = c.args.read.now.subject in
    let start = c.args.reader.now in
    let i = c.loop-place.place-index in
    let given = c.loop-place.given in
    let made = c.loop-place.made in
    let now = c.loop-place.reader in
    let ns = c.loop-place.numbers.items in
    let so = c.loop-place.invariant in
    let l = c.loop-place-test.true in
    let d : Place = (record { role = In; sort = Lex Id }) in
    let n = subst (λ (xs : List ℕ). made < length xs) (sym c.deref.ensures.value) (output-within table ps ins outs subject start i given made now ns so l d c.in-Out.is c.requires.stand) in search (rules, n)

pub place_number-requires-clause-place : goal.place_number-requires-clause-place
place_number-requires-clause-place c =
    let table = table_of c.args.table.now in
    let ps = c.args.places.now in
    let ins = c.args.inputs.now in
    let outs = c.args.read.now.outputs.items in
    let subject = c.args.read.now.subject in
    let start = c.args.reader.now in
    let i = c.loop-place.place-index in
    let given = c.loop-place.given in
    let made = c.loop-place.made in
    let now = c.loop-place.reader in
    let ns = c.loop-place.numbers.items in
    let so = c.loop-place.invariant in
    let l = c.loop-place-test.true in
    let d : Place = (record { role = In; sort = Lex Id }) in
    let takes : Takes table ps ins outs subject start i given made now ns so l d c.match-place.given c.match-place.made c.match-place.term =
    elim c.match-place.branch [
      | in-In w ↦ takes-input table ps ins outs subject start i given made now ns so l d w.in-In.is c.match-place.given c.match-place.made c.match-place.term w.given-is w.made-is (w.term-is ∙ w.number_at-term.ensures)
      | in-Out w ↦ takes-output table ps ins outs subject start i given made now ns so l d w.in-Out.is c.match-place.given c.match-place.made c.match-place.term w.given-is w.made-is
          (w.term-is ∙ w.number_at-term-in-Out.ensures ∙ ap (λ (xs : List ℕ). get_or xs made 0) w.deref.ensures.value)
    ] in
    next-place table ps ins outs subject start i given made now ns so l d c.match-place.given c.match-place.made c.match-place.term takes c.requires.stand

pub loop-place-preserved : goal.loop-place-preserved
loop-place-preserved c =
    let table = table_of c.args.table.now in
    let ps = c.args.places.now in
    let ins = c.args.inputs.now in
    let outs = c.args.read.now.outputs.items in
    let subject = c.args.read.now.subject in
    let start = c.args.reader.now in
    let i = c.loop-place.place-index in
    let given = c.loop-place.given in
    let made = c.loop-place.made in
    let now = c.loop-place.reader in
    let ns = c.loop-place.numbers.items in
    let so = c.loop-place.invariant in
    let l = c.loop-place-test.true in
    let d : Place = (record { role = In; sort = Lex Id }) in
    let takes : Takes table ps ins outs subject start i given made now ns so l d c.match-place.given c.match-place.made c.match-place.term =
    elim c.match-place.branch [
      | in-In w ↦ takes-input table ps ins outs subject start i given made now ns so l d w.in-In.is c.match-place.given c.match-place.made c.match-place.term w.given-is w.made-is (w.term-is ∙ w.number_at-term.ensures)
      | in-Out w ↦ takes-output table ps ins outs subject start i given made now ns so l d w.in-Out.is c.match-place.given c.match-place.made c.match-place.term w.given-is w.made-is
          (w.term-is ∙ w.number_at-term-in-Out.ensures ∙ ap (λ (xs : List ℕ). get_or xs made 0) w.deref.ensures.value)
    ] in
    let step = place-next table ps ins outs subject start i given made now ns so l d c.match-place.given c.match-place.made c.match-place.term takes c.place_number.new.reader c.in_ok-number.number c.in_ok-number.ensures.0 c.in_ok-number.ensures.1 c.in_ok-number.ensures.2 in
    let numbers : c.push.new.self.items ≡ ns ++ c.in_ok-number.number ∷ [] = c.in_ok-push.ensures.items in
    subst (λ (xs : List ℕ). PlacesSoFar table ps ins outs subject start (i + 1) c.match-place.given c.match-place.made c.place_number.new.reader xs) (sym numbers) step

pub returns : goal.returns
returns c = places-end (table_of c.args.table.now) c.args.places.now c.args.inputs.now c.args.read.now.outputs.items c.args.read.now.subject c.args.reader.now c.loop-place.place-index c.loop-place.given c.loop-place.made c.loop-place.reader c.loop-place.numbers.items c.loop-place.invariant c.loop-place-test.false
