-- Where there is more than one reading of a span.
use Rattle.std.proofs.Common.{◌≡◌, ℕ, suc, ◌<◌, List, [], ◌∷◌, ◌++◌, ◌⊎◌, inl, inr, Some, refl, sym, subst, ap, ◌∙◌, length, arith}
use Rattle.std.specs.Prelude.{None, Option, IfSome, Result, Ok, Err, OnOk}
use Rattle.std.specs.List.{slice_get}
use Rattle.std.proofs.lemmas.Option.{same_Some, none-some}
use Rattle.sx_term.specs.declared.lex_kind.LexKind.{LexKind}
use Rattle.sx_grammar.specs.Grammar.{Symbol, literal, lexical, part}
use Rattle.sx_grammar.specs.Reading.{Readings, done, ◌▸◌, ReadsAll, ReadsBy, reading_depth}
use Rattle.sx_grammar.specs.Reading.{readings_depth}
use Rattle.sx_grammar.specs.Tally.{Tally, no_way, one_way, more_ways, deeper, IsTally}
use Rattle.sx_grammar.proofs.Completeness.{from_start}
use Rattle.sx_forest.specs.declared.entry.Entry.{Entry}
use Rattle.sx_forest.specs.declared.forest.Forest.{Forest}
use Rattle.sx_forest.specs.declared.fork.Fork.{Fork}
use Rattle.sx_forest.specs.declared.opened.Opened.{Opened}
use Rattle.sx_forest.specs.declared.reading.Reading.{Reading}
use Rattle.sx_forest.specs.declared.step.Step.{Step}
use Rattle.sx_forest.specs.declared.step.Step.TheVariants as steps
use Rattle.sx_forest.specs.Readings.{plain_reading, plain_readings}
use Rattle.sx_forest.specs.Rows.{IsPlaceRow, entries_at}
use Rattle.sx_forest.specs.Tallies.{tally_of}
use Rattle.sx_forest.specs.Forests.{grammar_in, tokens_in, lists_in, symbols_in, symbols_of}
use Rattle.sx_forest.specs.Forests.{row_from, depth_in, IsMore, IsForest, IsOpened, IsAt, IsReadTo}
use Rattle.sx_forest.specs.Forests.{IsItemStep, GoesOver, IsBy, IsForkOf, IsThere, IsForkAt, IsMoreAt}
use Rattle.sx_forest.specs.Forests.{IsParting, IsFirstUsable, end_of, one_of, other_of, followed}
use Rattle.sx_forest.proofs.Usable.{more_times, goes_on}
use Rattle.sx_forest.proofs.Following.{same_behind, followed_twice, first_in, one_more_kid}
use Rattle.sx_forest.proofs.Spans.{head_tally}
use Rattle.sx_forest.proofs.Stepwise.{part_of, place_is, kid_shallow, kid_depth, right, read_part, at_the_end}
use Rattle.sx_forest.proofs.Parting.{are_both, they_part}
use Rattle.sx_forest.proofs.Growing.{Behind}

pub both_ok : {T E P Q R : Type 0} (r : Result T E) → (P → Q → R) → OnOk r P → OnOk r Q → OnOk r R
both_ok (Ok x) f p q = f p q
both_ok (Err e) f p q = tt

-- what has more than one is told so by each tally
more_same : {A : Type 0} (P : A → Type 0) (depth : A → ℕ) (t u : Tally) → IsTally P depth t → IsTally P depth u → IsMore t → IsMore u
more_same P depth no_way u h k more = absurd more
more_same P depth (one_way d) u h k more = absurd more
more_same P depth (more_ways d) no_way h k more = absurd (k h.0 h.2)
more_same P depth (more_ways d) (one_way e) h k more = absurd (h.4 (k.3 h.0 h.2 ∙ sym (k.3 h.1 h.3)))
more_same P depth (more_ways d) (more_ways e) h k more = tt

more_inside : (t : Tally) → IsMore (deeper t) → IsMore t
more_inside no_way more = more
more_inside (one_way d) more = more
more_inside (more_ways d) more = tt

module _ (f : Forest) (forest : IsForest f) (o : Opened) (opened : IsOpened (grammar_in f) (tokens_in f) f.start (lists_in f) o) where
  -- before all symbols there is more than one
  pub more_first : IsMore (tally_of o.ways) → IsAt (grammar_in f) (tokens_in f) f.start o 0 o.from → IsMoreAt (grammar_in f) o 0 o.from
  more_first more at =
      let g = grammar_in f in let ts = tokens_in f in
      let p = opened.sound.0.1.0 in let e = opened.sound.0.1.1 in
      let u = (row_from g o 0) o.from in
      let all : IsTally (ReadsAll g ts (symbols_of g o.head) o.from o.to) readings_depth u =
      right g ts f.start forest.levels forest.ranked.0 forest.ranked.1 (lists_in f) forest.full o opened 0 (symbols_of g o.head) (omega arith) from_start o.from at.item in
      let all' : IsTally (ReadsAll g ts p.symbols o.from o.to) readings_depth u = subst (λ xs. IsTally (ReadsAll g ts xs o.from o.to) readings_depth u) (ap symbols_in e) all in
      more_inside u
      (more_same (ReadsBy g ts o.head p.sort o.from o.to) reading_depth (tally_of o.ways) (deeper u) (opened.sound.1 p.sort (record { production = p; is = e; same_sort = refl; reaches = omega arith }))
      (head_tally g ts o.head p o.from o.to u e all') more)

  -- over a literal
  pub more_over_literal : (dot place : ℕ) (step : Step) → step ≡ steps.Literal → IsAt (grammar_in f) (tokens_in f) f.start o dot place → IsItemStep (grammar_in f) (tokens_in f) f.start (lists_in f) o dot place step →
      IsMoreAt (grammar_in f) o dot place → IsMoreAt (grammar_in f) o (suc dot) (end_of step place)
  more_over_literal dot place step e at step_is more = rw e (by_symbol step_is.symbol step_is.is (subst (λ s. GoesOver (grammar_in f) (tokens_in f) (lists_in f) (row_from (grammar_in f) o (suc dot)) place step_is.symbol s) e step_is.over))
    where
      by_place : (text : List ℕ) → IsPlaceRow (grammar_in f) (tokens_in f) (entries_at (lists_in f) place) (literal text) place (row_from (grammar_in f) o (suc dot)) ((row_from (grammar_in f) o dot) place) →
          IsMoreAt (grammar_in f) o (suc dot) (suc place)
      by_place text (inl h) = subst IsMore h.1 more
      by_place text (inr h) = absurd (subst IsMore h.1 more)

      by_symbol : (x : Symbol) → slice_get (symbols_of (grammar_in f) o.head) dot ≡ Some x → GoesOver (grammar_in f) (tokens_in f) (lists_in f) (row_from (grammar_in f) o (suc dot)) place x steps.Literal →
          IsMoreAt (grammar_in f) o (suc dot) (suc place)
      by_symbol (literal text) s h =
          by_place text (place_is (grammar_in f) (tokens_in f) f.start forest.levels forest.ranked.0 forest.ranked.1 (lists_in f) forest.full o opened dot place (literal text) s at)
      by_symbol (lexical kind) s h = let clash : steps.Literal ≡ steps.Token = h.0 in cc
      by_symbol (part sort least) s h = let clash : steps.Literal ≡ steps.Part h.0 h.1 = h.2 in cc

  -- over a token
  pub more_over_token : (dot place : ℕ) (step : Step) → step ≡ steps.Token → IsAt (grammar_in f) (tokens_in f) f.start o dot place → IsItemStep (grammar_in f) (tokens_in f) f.start (lists_in f) o dot place step →
      IsMoreAt (grammar_in f) o dot place → IsMoreAt (grammar_in f) o (suc dot) (end_of step place)
  more_over_token dot place step e at step_is more = rw e (by_symbol step_is.symbol step_is.is (subst (λ s. GoesOver (grammar_in f) (tokens_in f) (lists_in f) (row_from (grammar_in f) o (suc dot)) place step_is.symbol s) e step_is.over))
    where
      by_part : IsMore (one_way 1) ⊎ IsMoreAt (grammar_in f) o (suc dot) (suc place) → IsMoreAt (grammar_in f) o (suc dot) (suc place)
      by_part (inl h) = absurd h
      by_part (inr h) = h

      by_place : (kind : LexKind) → IsPlaceRow (grammar_in f) (tokens_in f) (entries_at (lists_in f) place) (lexical kind) place (row_from (grammar_in f) o (suc dot)) ((row_from (grammar_in f) o dot) place) →
          IsMoreAt (grammar_in f) o (suc dot) (suc place)
      by_place kind (inl h) = by_part (more_times (one_way 1) ((row_from (grammar_in f) o (suc dot)) (suc place)) (subst IsMore h.1 more))
      by_place kind (inr h) = absurd (subst IsMore h.1 more)

      by_symbol : (x : Symbol) → slice_get (symbols_of (grammar_in f) o.head) dot ≡ Some x → GoesOver (grammar_in f) (tokens_in f) (lists_in f) (row_from (grammar_in f) o (suc dot)) place x steps.Token →
          IsMoreAt (grammar_in f) o (suc dot) (suc place)
      by_symbol (literal text) s h = let clash : steps.Token ≡ steps.Literal = h.0 in cc
      by_symbol (lexical kind) s h =
          by_place kind (place_is (grammar_in f) (tokens_in f) f.start forest.levels forest.ranked.0 forest.ranked.1 (lists_in f) forest.full o opened dot place (lexical kind) s at)
      by_symbol (part sort least) s h = let clash : steps.Token ≡ steps.Part h.0 h.1 = h.2 in cc

  -- over a part, where the readings do not part there
  pub more_over_part : (dot place index sort least : ℕ) (e : Entry) → slice_get (symbols_of (grammar_in f) o.head) dot ≡ Some (part sort least) → IsAt (grammar_in f) (tokens_in f) f.start o dot place →
      IsFirstUsable (grammar_in f) sort least (row_from (grammar_in f) o (suc dot)) (entries_at (lists_in f) place) 0 (Some (index, e)) →
      IsForkOf (grammar_in f) sort least (row_from (grammar_in f) o (suc dot)) (entries_at (lists_in f) place) index e None → IsMoreAt (grammar_in f) o dot place → IsMoreAt (grammar_in f) o (suc dot) e.to
  more_over_part dot place index sort least e symbol at first fork more =
      goes_on (grammar_in f) sort least (row_from (grammar_in f) o (suc dot)) (entries_at (lists_in f) place) ((row_from (grammar_in f) o dot) place) index e
      (place_is (grammar_in f) (tokens_in f) f.start forest.levels forest.ranked.0 forest.ranked.1 (lists_in f) forest.full o opened dot place (part sort least) symbol at) more first fork

  -- the fork at a part
  pub fork_there : (dot place index sort least : ℕ) (e : Entry) (fork : Fork) → slice_get (symbols_of (grammar_in f) o.head) dot ≡ Some (part sort least) →
      IsFirstUsable (grammar_in f) sort least (row_from (grammar_in f) o (suc dot)) (entries_at (lists_in f) place) 0 (Some (index, e)) →
      IsForkOf (grammar_in f) sort least (row_from (grammar_in f) o (suc dot)) (entries_at (lists_in f) place) index e (Some fork) → IsForkAt (grammar_in f) (lists_in f) o dot place fork
  fork_there dot place index sort least e fork symbol first is =
      let both = are_both (grammar_in f) sort least (row_from (grammar_in f) o (suc dot)) (entries_at (lists_in f) place) index e fork first.1 first.2 is in
      record {
        sort = sort;
        least = least;
        symbol = symbol;
        one = record { index = both.i; at = both.one_at; used = both.one_used };
        other = record { index = both.j; at = both.other_at; used = both.other_used };
        apart = they_part (grammar_in f) (tokens_in f) f.start (lists_in f) forest.full.table place sort least (row_from (grammar_in f) o (suc dot)) index e fork first.1 is;
      }

  -- what is needed to go over it
  pub fork_parting : (dot place : ℕ) (fork : Fork) (kids : Readings) → IsReadTo (grammar_in f) (tokens_in f) f.start o dot place kids → IsForkAt (grammar_in f) (lists_in f) o dot place fork →
      IsParting (grammar_in f) (tokens_in f) f.start place fork
  fork_parting dot place fork kids so h = record {
    sort = h.sort;
    least = h.least;
    one = kid_shallow (grammar_in f) (tokens_in f) f.start forest.levels forest.ranked.0 forest.ranked.1 (lists_in f) forest.full o opened dot place h.sort h.least h.one.index (one_of fork) kids h.symbol so h.one.at h.one.used;
    other = kid_shallow (grammar_in f) (tokens_in f) f.start forest.levels forest.ranked.0 forest.ranked.1 (lists_in f) forest.full o opened dot place h.sort h.least h.other.index (other_of fork) kids h.symbol so h.other.at h.other.used;
    one_fits = h.one.used.0;
    other_fits = h.other.used.0;
    apart = h.apart;
  }

  -- one kid more
  pub over_there : (dot place sort least : ℕ) (e : Entry) (kids new : List Reading) (r : Reading) → slice_get (symbols_of (grammar_in f) o.head) dot ≡ Some (part sort least) →
      IsThere (grammar_in f) (lists_in f) o dot place sort least e → IsReadTo (grammar_in f) (tokens_in f) f.start o dot place (plain_readings kids) →
      IsBy (grammar_in f) (tokens_in f) e.maker place e.to (plain_reading r) → new ≡ kids ++ r ∷ [] → IsReadTo (grammar_in f) (tokens_in f) f.start o (suc dot) e.to (plain_readings new)
  over_there dot place sort least e kids new r symbol there so by more =
      read_part (grammar_in f) (tokens_in f) f.start forest.levels forest.ranked.0 forest.ranked.1 (lists_in f) forest.full o opened dot place sort least there.index e (plain_readings kids) (plain_readings new) (plain_reading r)
      symbol so there.at there.used by (one_more_kid kids new r more)

  -- rows that part are different
  pub rows_apart : (dot place : ℕ) (one other : List Reading) (a b : Reading) (one' other' one'' other'' : List Reading) →
      IsReadTo (grammar_in f) (tokens_in f) f.start o dot place (plain_readings one) → IsReadTo (grammar_in f) (tokens_in f) f.start o dot place (plain_readings other) → (plain_reading a ≡ plain_reading b → ⊥) →
      one' ≡ one ++ a ∷ [] → other' ≡ other ++ b ∷ [] → Behind one' one'' → Behind other' other'' → plain_readings one'' ≡ plain_readings other'' → ⊥
  rows_apart dot place one other a b one' other' one'' other'' read read' apart e e' behind behind' same =
      let k = plain_readings one in let l = plain_readings other in
      let left : plain_readings one'' ≡ followed k (plain_reading a ▸ behind.0) =
      behind.1 ∙ (ap (λ x. followed x behind.0) (one_more_kid one one' a e) ∙ followed_twice k (plain_reading a ▸ done) behind.0) in
      let right' : plain_readings other'' ≡ followed l (plain_reading b ▸ behind'.0) =
      behind'.1 ∙ (ap (λ x. followed x behind'.0) (one_more_kid other other' b e') ∙ followed_twice l (plain_reading b ▸ done) behind'.0) in
      let rest : plain_reading a ▸ behind.0 ≡ plain_reading b ▸ behind'.0 =
      same_behind (grammar_in f) (tokens_in f) (plain_reading a ▸ behind.0) (plain_reading b ▸ behind'.0) read.read read'.read (sym left ∙ (same ∙ right')) in
      apart (ap first_in rest)

  -- after all symbols there is not more than one
  pub more_last : (dot place : ℕ) → dot ≡ length (symbols_of (grammar_in f) o.head) → IsAt (grammar_in f) (tokens_in f) f.start o dot place → IsMoreAt (grammar_in f) o dot place → ⊥
  more_last dot place end at more =
      at_the_end (grammar_in f) (tokens_in f) f.start forest.levels forest.ranked.0 forest.ranked.1 (lists_in f) forest.full o opened place
      (subst (λ d. IsMoreAt (grammar_in f) o d place) end more) (subst (λ d. IsAt (grammar_in f) (tokens_in f) f.start o d place) end at)

  -- the first usable entry at a part is that of the step
  first_as : (dot place index sort least : ℕ) (e : Entry) → slice_get (symbols_of (grammar_in f) o.head) dot ≡ Some (part sort least) →
      IsItemStep (grammar_in f) (tokens_in f) f.start (lists_in f) o dot place (steps.Part index e) →
      IsFirstUsable (grammar_in f) sort least (row_from (grammar_in f) o (suc dot)) (entries_at (lists_in f) place) 0 (Some (index, e))
  first_as dot place index sort least e symbol step =
      let h = part_of (grammar_in f) (tokens_in f) f.start forest.levels forest.ranked.0 forest.ranked.1 (lists_in f) forest.full o opened dot place index e step in
      let same : part h.sort h.least ≡ part sort least = same_Some (part h.sort h.least) (part sort least) (sym h.symbol ∙ symbol) in
      subst First same h.first
    where
      First : Symbol → Type 0
      First (literal text) = Unit {0}
      First (lexical kind) = Unit {0}
      First (part s l) = IsFirstUsable (grammar_in f) s l (row_from (grammar_in f) o (suc dot)) (entries_at (lists_in f) place) 0 (Some (index, e))

  -- what is found at a part
  pub fork_found : (dot place index sort least : ℕ) (e : Entry) (step : Step) (next : ℕ → Tally) (entries : List Entry) (r : Option Fork) → slice_get (symbols_of (grammar_in f) o.head) dot ≡ Some (part sort least) →
      step ≡ steps.Part index e → IsItemStep (grammar_in f) (tokens_in f) f.start (lists_in f) o dot place step → next ≡ row_from (grammar_in f) o (suc dot) → entries ≡ entries_at (lists_in f) place →
      IsForkOf (grammar_in f) sort least next entries index e r → IfSome r (IsForkAt (grammar_in f) (lists_in f) o dot place)
  fork_found dot place index sort least e step next entries None symbol is step_is a b h = tt
  fork_found dot place index sort least e step next entries (Some fork) symbol is step_is a b h =
      fork_there dot place index sort least e fork symbol
      (first_as dot place index sort least e symbol (subst (λ s. IsItemStep (grammar_in f) (tokens_in f) f.start (lists_in f) o dot place s) is step_is))
      (subst (λ x. IsForkOf (grammar_in f) sort least (row_from (grammar_in f) o (suc dot)) x index e (Some fork)) b (subst (λ x. IsForkOf (grammar_in f) sort least x entries index e (Some fork)) a h))

  pub goes_over : (dot place index sort least : ℕ) (e : Entry) (step : Step) (next : ℕ → Tally) (entries : List Entry) (r : Option Fork) → slice_get (symbols_of (grammar_in f) o.head) dot ≡ Some (part sort least) →
      step ≡ steps.Part index e → IsAt (grammar_in f) (tokens_in f) f.start o dot place → IsItemStep (grammar_in f) (tokens_in f) f.start (lists_in f) o dot place step → next ≡ row_from (grammar_in f) o (suc dot) → entries ≡ entries_at (lists_in f) place →
      IsForkOf (grammar_in f) sort least next entries index e r → r ≡ None → IsMoreAt (grammar_in f) o dot place → IsMoreAt (grammar_in f) o (suc dot) (end_of step place)
  goes_over dot place index sort least e step next entries (Some fork) symbol is at step_is a b h none more = absurd (none-some fork (sym none))
  goes_over dot place index sort least e step next entries None symbol is at step_is a b h none more =
      rw is
      (more_over_part dot place index sort least e symbol at
      (first_as dot place index sort least e symbol (subst (λ s. IsItemStep (grammar_in f) (tokens_in f) f.start (lists_in f) o dot place s) is step_is))
      (subst (λ x. IsForkOf (grammar_in f) sort least (row_from (grammar_in f) o (suc dot)) x index e None) b (subst (λ x. IsForkOf (grammar_in f) sort least x entries index e None) a h)) more)

  -- a usable entry at a part is less deep than the span
  pub there_less : (dot place sort least : ℕ) (e : Entry) (kids : Readings) → slice_get (symbols_of (grammar_in f) o.head) dot ≡ Some (part sort least) → IsThere (grammar_in f) (lists_in f) o dot place sort least e →
      IsReadTo (grammar_in f) (tokens_in f) f.start o dot place kids → depth_in (tally_of e.ways) < depth_in (tally_of o.ways)
  there_less dot place sort least e kids symbol there so =
      kid_depth (grammar_in f) (tokens_in f) f.start forest.levels forest.ranked.0 forest.ranked.1 (lists_in f) forest.full o opened dot place sort least there.index e kids symbol so there.at there.used
