-- Where two readings part.
use Rattle.std.proofs.Common.{◌≡◌, ℕ, ◌<◌, ◌≤◌, List, ◌⊎◌, inl, inr, Some, refl, sym, subst, ap, ◌∙◌, length, arith}
use Rattle.std.specs.Prelude.{None}
use Rattle.std.specs.Global.{Vec}
use Rattle.std.specs.List.{slice_get}
use Rattle.std.proofs.lemmas.Bool.{cases_lt}
use Rattle.std.proofs.lemmas.Option.{same_Some}
use Rattle.sx_grammar.specs.Grammar.{Grammar, Token, HasLevels}
use Rattle.sx_grammar.specs.Reading.{Reading, Reads, ReadsWhole, reading_depth}
use Rattle.sx_grammar.specs.Tally.{Tally, no_way, one_way, more_ways, times, IsTally}
use Rattle.sx_forest.specs.declared.entry.Entry.{Entry}
use Rattle.sx_forest.specs.declared.entry.Maker.{Maker}
use Rattle.sx_forest.specs.declared.entry.Maker.TheVariants.{Variable}
use Rattle.sx_forest.specs.declared.fork.Fork.{Fork}
use Rattle.sx_forest.specs.declared.fork.Fork.TheVariants.{Apart, Inside}
use Rattle.sx_forest.specs.Tallies.{tally_of, IsLastRow}
use Rattle.sx_forest.specs.Rows.{entries_at}
use Rattle.sx_forest.specs.Table.{IsForestTable, IsFull, CountsReadings}
use Rattle.sx_forest.specs.Forests.{IsMore, IsBy, IsShallowEntry, IsUsableEntry, IsFirstUsable}
use Rattle.sx_forest.specs.Forests.{IsForkOf, IsApart, IsParting, one_of, other_of}
use Rattle.sx_forest.proofs.Using.{useful_at_end}
use Rattle.sx_forest.proofs.Counting.{KidOf, kid_reads, kid_fits, kid_tally, one_kid}
use Rattle.sx_forest.proofs.Whole.{covered}
use Rattle.sx_forest.proofs.Usable.{deepest_of, only_usable}
use Rattle.sx_forest.proofs.Stepwise.{is_kid}

-- the entries of a fork are two usable ones, or one that has more readings than one
pub record AreBoth (g : Grammar) (sort least : ℕ) (next : ℕ → Tally) (entries : List Entry) (fork : Fork) : Type 0 where
  pub i : ℕ
  pub j : ℕ
  pub one_at : slice_get entries i ≡ Some (one_of fork)
  pub other_at : slice_get entries j ≡ Some (other_of fork)
  pub one_used : IsUsableEntry g sort least next (one_of fork)
  pub other_used : IsUsableEntry g sort least next (other_of fork)

pub are_both : (g : Grammar) (sort least : ℕ) (next : ℕ → Tally) (entries : List Entry) (index : ℕ) (e : Entry) (fork : Fork) → slice_get entries index ≡ Some e →
    IsUsableEntry g sort least next e → IsForkOf g sort least next entries index e (Some fork) → AreBoth g sort least next entries fork
are_both g sort least next entries index e (Apart one other) at used h = record {
  i = index;
  j = h.1.0;
  one_at = at ∙ ap Some (sym h.0);
  other_at = h.1.2;
  one_used = subst (λ x. IsUsableEntry g sort least next x) (sym h.0) used;
  other_used = h.1.3;
}
are_both g sort least next entries index e (Inside entry) at used h = record {
  i = index;
  j = index;
  one_at = at ∙ ap Some (sym h.0);
  other_at = at ∙ ap Some (sym h.0);
  one_used = subst (λ x. IsUsableEntry g sort least next x) (sym h.0) used;
  other_used = subst (λ x. IsUsableEntry g sort least next x) (sym h.0) used;
}

-- they part
pub they_part : (g : Grammar) (tokens : List Token) (start : ℕ) (lists : List (Vec Entry)) (table : IsForestTable g tokens start lists) (place sort least : ℕ) (next : ℕ → Tally) (index : ℕ) (e : Entry) (fork : Fork) →
    slice_get (entries_at lists place) index ≡ Some e → IsForkOf g sort least next (entries_at lists place) index e (Some fork) → IsApart fork
they_part g tokens start lists table place sort least next index e (Apart one other) at h = λ makers ends.
    let same = table.once place index h.1.0 one other (at ∙ ap Some (sym h.0)) h.1.2 makers ends in
    let low = h.1.1 in omega arith
they_part g tokens start lists table place sort least next index e (Inside entry) at h = subst (λ x. IsMore (tally_of x.ways)) (sym h.0) h.1

-- what reads by two entries that differ is different
pub apart_read : (g : Grammar) (tokens : List Token) (sort least place : ℕ) (one other : Entry) (a b : Reading) → KidOf g tokens one.maker sort least place one.to a → KidOf g tokens other.maker sort least place other.to b →
    (one.maker ≡ other.maker → one.to ≡ other.to → ⊥) → a ≡ b → ⊥
apart_read g tokens sort least place one other a b k l apart same =
    let h = one_kid g tokens one.maker other.maker sort least place one.to other.to a k (subst (λ x. KidOf g tokens other.maker sort least place other.to x) (sym same) l) in apart h.0 h.1

-- where there is not more than one, two are the same
same_of : {A : Type 0} (P : A → Type 0) (depth : A → ℕ) (t : Tally) → IsTally P depth t → (IsMore t → ⊥) → (a b : A) → P a → P b → a ≡ b
same_of P depth no_way h single a b p q = absurd (h a p)
same_of P depth (one_way d) h single a b p q = h.3 a p ∙ sym (h.3 b q)
same_of P depth (more_ways d) h single a b p q = absurd (single tt)

abbrev IsSome : Tally → Type 0
IsSome no_way = ⊥
IsSome (one_way d) = Unit {0}
IsSome (more_ways d) = Unit {0}

times_last : (t : Tally) → times t (one_way 0) ≡ no_way → t ≡ no_way
times_last no_way e = refl
times_last (one_way d) e = absurd (subst IsSome e tt)
times_last (more_ways d) e = absurd (subst IsSome e tt)

module _ (g : Grammar) (tokens : List Token) (start : ℕ) (levels : HasLevels g) (lists : List (Vec Entry)) (full : IsFull g tokens start lists) (row : ℕ → Tally) (last : IsLastRow (length tokens) row) where
  -- a reading of all tokens is by a usable entry
  pub whole_used : (r : Reading) → ReadsWhole g tokens start r →
      (i : ℕ) × (e : Entry) × (slice_get (entries_at lists 0) i ≡ Some e) × KidOf g tokens e.maker start 0 0 e.to r × IsUsableEntry g start 0 row e
  whole_used r reads =
      let h = covered g tokens start levels lists full (length tokens) r refl reads in
      let e = h.1 in
      let kid : KidOf g tokens e.maker start 0 0 e.to r = subst (λ q. KidOf g tokens e.maker start 0 0 q r) (sym h.4) h.3 in
      let fits = kid_fits g tokens e.maker start 0 0 e.to r kid in
      let tally = kid_tally g tokens start e.maker start 0 0 e.to (tally_of e.ways) (full.table.sound 0 h.0 e h.2) fits in
      let end : row e.to ≡ one_way 0 = ap row h.4 ∙ last.end in (
        h.0,
        e,
        h.2,
        kid,
        (
          fits,
          λ none.
              (subst (λ t. IsTally (KidOf g tokens e.maker start 0 0 e.to) reading_depth t) (times_last (tally_of e.ways) (ap (λ t. times (tally_of e.ways) t) (sym end) ∙ none)) tally) r kid,
        ),
      )

  -- a usable entry reads up to the end
  pub reads_to_end : (e : Entry) → IsUsableEntry g start 0 row e → e.to ≡ length tokens
  reads_to_end e used = by_order (cases_lt e.to (length tokens)) (cases_lt (length tokens) e.to)
    where
      some : row e.to ≡ no_way → ⊥
      some none = used.1 (ap (λ t. times (tally_of e.ways) t) none ∙ times_nothing (tally_of e.ways))
        where
          times_nothing : (t : Tally) → times t no_way ≡ no_way
          times_nothing no_way = refl
          times_nothing (one_way d) = refl
          times_nothing (more_ways d) = refl

      by_order : (e.to < length tokens) ⊎ (length tokens ≤ e.to) → (length tokens < e.to) ⊎ (e.to ≤ length tokens) → e.to ≡ length tokens
      by_order (inl low) h = absurd (some (last.elsewhere e.to (λ same. omega arith)))
      by_order (inr high) (inl beyond) = absurd (some (last.elsewhere e.to (λ same. omega arith)))
      by_order (inr high) (inr low) = omega arith

  -- what reads by it reads all tokens
  pub whole_by : (e : Entry) (r : Reading) → IsUsableEntry g start 0 row e → IsBy g tokens e.maker 0 e.to r → ReadsWhole g tokens start r
  whole_by e r used by =
      subst (λ q. Reads g tokens start 0 0 q r) (reads_to_end e used) (kid_reads g tokens e.maker start 0 0 e.to r (is_kid g tokens e.maker start 0 0 e.to r used.0 by))

  module _ (low : (r : Reading) → ReadsWhole g tokens start r → reading_depth r ≤ 1000) where
    -- it is as shallow as they are
    pub whole_shallow : (i : ℕ) (e : Entry) → slice_get (entries_at lists 0) i ≡ Some e → IsUsableEntry g start 0 row e → IsShallowEntry g tokens start 0 e
    whole_shallow i e at used =
        let sound = full.table.sound 0 i e at in
        let kid = deepest_of (KidOf g tokens e.maker start 0 0 e.to) reading_depth (tally_of e.ways) (kid_tally g tokens start e.maker start 0 0 e.to (tally_of e.ways) sound used.0)
        (λ none. used.1 (ap (λ t. times t (row e.to)) none)) in
        let reads : ReadsWhole g tokens start kid.0 = subst (λ q. Reads g tokens start 0 0 q kid.0) (reads_to_end e used) (kid_reads g tokens e.maker start 0 0 e.to kid.0 kid.1) in
        let bound = low kid.0 reads in let deep = kid.2 in
        record { sound = sound; low = omega arith; useful = useful_at_end g tokens e.maker e.to (reads_to_end e used) }

    pub whole_parting : (i : ℕ) (e : Entry) (fork : Fork) → slice_get (entries_at lists 0) i ≡ Some e → IsUsableEntry g start 0 row e → IsForkOf g start 0 row (entries_at lists 0) i e (Some fork) → IsParting g tokens start 0 fork
    whole_parting i e fork at used h =
        let both = are_both g start 0 row (entries_at lists 0) i e fork at used h in
        record {
          sort = start;
          least = 0;
          one = whole_shallow both.i (one_of fork) both.one_at both.one_used;
          other = whole_shallow both.j (other_of fork) both.other_at both.other_used;
          one_fits = both.one_used.0;
          other_fits = both.other_used.0;
          apart = they_part g tokens start lists full.table 0 start 0 row i e fork at h;
        }

  -- where there is a reading, an entry is usable
  pub whole_some : (r : Reading) → ReadsWhole g tokens start r → IsFirstUsable g start 0 row (entries_at lists 0) 0 None → ⊥
  whole_some r reads none = let h = whole_used r reads in none h.0 h.1 (omega arith) h.2 h.4

  -- where there are two, they part
  pub whole_apart : (a b : Reading) (i : ℕ) (e : Entry) → ReadsWhole g tokens start a → ReadsWhole g tokens start b → (a ≡ b → ⊥) →
      IsFirstUsable g start 0 row (entries_at lists 0) 0 (Some (i, e)) → IsForkOf g start 0 row (entries_at lists 0) i e None → ⊥
  whole_apart a b i e one two apart first fork =
      apart
      (same_of (KidOf g tokens e.maker start 0 0 e.to) reading_depth (tally_of e.ways) (kid_tally g tokens start e.maker start 0 0 e.to (tally_of e.ways) (full.table.sound 0 i e first.1) first.2.0) fork.0 a b
      (by_it a one) (by_it b two))
    where
      by_it : (r : Reading) → ReadsWhole g tokens start r → KidOf g tokens e.maker start 0 0 e.to r
      by_it r reads =
          let h = whole_used r reads in
          let same = only_usable g start 0 row (entries_at lists 0) i e first fork h.0 h.1 h.2 h.4 in
          let is : h.1 ≡ e = same_Some h.1 e (sym (subst (λ k. slice_get (entries_at lists 0) k ≡ Some h.1) same h.2) ∙ first.1) in
          subst (λ x. KidOf g tokens x.maker start 0 0 x.to r) is h.3

-- readings by the two entries of a fork are different
pub pair_apart : (g : Grammar) (tokens : List Token) (start place : ℕ) (one other : Entry) (a b : Reading) → IsParting g tokens start place (Apart one other) →
    IsBy g tokens one.maker place one.to a → IsBy g tokens other.maker place other.to b → a ≡ b → ⊥
pair_apart g tokens start place one other a b parting by by' =
    apart_read g tokens parting.sort parting.least place one other a b (is_kid g tokens one.maker parting.sort parting.least place one.to a parting.one_fits by)
    (is_kid g tokens other.maker parting.sort parting.least place other.to b parting.other_fits by') parting.apart

-- a metavariable has one reading
pub one_variable : (g : Grammar) (tokens : List Token) (start from to sort : ℕ) (m : Maker) (t : Tally) → m ≡ Variable sort → CountsReadings g tokens start m from to t → IsMore t → ⊥
one_variable g tokens start from to sort m t e sound more =
    let s = subst (λ x. CountsReadings g tokens start x from to t) e sound in subst IsMore s.2 more
