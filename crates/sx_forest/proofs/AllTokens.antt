-- The entries by which all tokens are read.
use Rattle.std.proofs.Common.{◌≡◌, ℕ, ◌<◌, ◌≤◌, List, ◌⊎◌, inl, inr, Some, refl, sym, subst, ap, ◌∙◌, length, arith}
use Rattle.std.specs.Prelude.{None}
use Rattle.std.specs.Global.{Vec}
use Rattle.std.specs.List.{slice_get}
use Rattle.std.proofs.lemmas.Bool.{cases_lt}
use Rattle.std.proofs.lemmas.Option.{same_Some}
use Rattle.sx_grammar.specs.Grammar.{Grammar, Token, HasLevels}
use Rattle.sx_grammar.specs.Reading.{Reading, ReadsWhole, reading_depth}
use Rattle.sx_grammar.specs.Tally.{Tally, no_way, one_way, more_ways, times, IsTally}
use Rattle.sx_forest.specs.declared.entry.Entry.{Entry}
use Rattle.sx_forest.specs.declared.fork.Fork.{Fork}
use Rattle.sx_forest.specs.declared.fork.Fork.TheVariants.{Apart, Inside}
use Rattle.sx_forest.specs.Tallies.{tally_of, IsLastRow}
use Rattle.sx_forest.specs.Rows.{entries_at}
use Rattle.sx_forest.specs.Table.{IsFull}
use Rattle.sx_forest.specs.Forests.{depth_in, IsMore, IsBy, IsShallowEntry, IsUsableEntry}
use Rattle.sx_forest.specs.Forests.{IsFirstUsable, IsForkOf, IsParting, one_of, other_of}
use Rattle.sx_forest.proofs.Counting.{KidOf, kid_reads, kid_fits, kid_tally}
use Rattle.sx_forest.proofs.Using.{useful_at_end}
use Rattle.sx_forest.proofs.Whole.{covered}
use Rattle.sx_forest.proofs.Usable.{none_or, deepest_of, times_none, only_usable}
use Rattle.sx_forest.proofs.Stepwise.{is_kid}

some_after : (t : Tally) → times t (one_way 0) ≡ no_way → t ≡ no_way
some_after no_way e = refl
some_after (one_way d) e = absurd cc
some_after (more_ways d) e = absurd cc

one_at_most : {A : Type 0} (P : A → Type 0) (depth : A → ℕ) (t : Tally) → IsTally P depth t → (IsMore t → ⊥) → (a b : A) → P a → P b → a ≡ b
one_at_most P depth no_way h few a b p q = absurd (h a p)
one_at_most P depth (one_way d) h few a b p q = h.3 a p ∙ sym (h.3 b q)
one_at_most P depth (more_ways d) h few a b p q = absurd (few tt)

module _ (g : Grammar) (tokens : List Token) (start : ℕ) (levels : HasLevels g) (lists : List (Vec Entry)) (full : IsFull g tokens start lists)
    (row : ℕ → Tally) (last : IsLastRow (length tokens) row) where
  abbrev Used : Entry → Type 0
  Used e = IsUsableEntry g start 0 row e

  abbrev Kid : Entry → Reading → Type 0
  Kid e r = KidOf g tokens e.maker start 0 0 e.to r

  -- a usable entry reads up to the end
  ends_last : (e : Entry) → Used e → e.to ≡ length tokens
  ends_last e used = by_order (cases_lt e.to (length tokens)) (cases_lt (length tokens) e.to)
    where
      gone : row e.to ≡ no_way → ⊥
      gone none = used.1 (ap (times (tally_of e.ways)) none ∙ times_none (tally_of e.ways))

      by_order : (e.to < length tokens) ⊎ (length tokens ≤ e.to) → (length tokens < e.to) ⊎ (e.to ≤ length tokens) → e.to ≡ length tokens
      by_order (inl low) h = absurd (gone (last.elsewhere e.to (λ same. omega arith)))
      by_order (inr high) (inl beyond) = absurd (gone (last.elsewhere e.to (λ same. omega arith)))
      by_order (inr high) (inr low) = omega arith

  kid_whole : (e : Entry) → Used e → (r : Reading) → Kid e r → ReadsWhole g tokens start r
  kid_whole e used r kid = kid_reads g tokens e.maker start 0 0 (length tokens) r (subst (λ t. KidOf g tokens e.maker start 0 0 t r) (ends_last e used) kid)

  -- what is by a usable entry reads all tokens
  pub by_used : (e : Entry) → Used e → (r : Reading) → IsBy g tokens e.maker 0 e.to r → ReadsWhole g tokens start r
  by_used e used r by = kid_whole e used r (is_kid g tokens e.maker start 0 0 e.to r used.0 by)

  counted : (i : ℕ) (e : Entry) → slice_get (entries_at lists 0) i ≡ Some e → Used e → IsTally (Kid e) reading_depth (tally_of e.ways)
  counted i e at used = kid_tally g tokens start e.maker start 0 0 e.to (tally_of e.ways) (full.table.sound 0 i e at) used.0

  -- each reading of all tokens is by a usable entry
  pub of_used : (r : Reading) → ReadsWhole g tokens start r → (i : ℕ) × (e : Entry) × (slice_get (entries_at lists 0) i ≡ Some e) × Used e × Kid e r
  of_used r reads =
      let c = covered g tokens start levels lists full (length tokens) r refl reads in
      let e = c.1 in
      let kid : Kid e r = subst (λ t. KidOf g tokens e.maker start 0 0 t r) (sym c.4) c.3 in
      let fits = kid_fits g tokens e.maker start 0 0 e.to r kid in
      let end : row e.to ≡ one_way 0 = ap row c.4 ∙ last.end in
      let tally : IsTally (Kid e) reading_depth (tally_of e.ways) = kid_tally g tokens start e.maker start 0 0 e.to (tally_of e.ways) (full.table.sound 0 c.0 e c.2) fits in (
        c.0,
        e,
        c.2,
        (
          fits,
          λ none.
              let gone : tally_of e.ways ≡ no_way = some_after (tally_of e.ways) (sym (ap (times (tally_of e.ways)) end) ∙ none) in
              let no : IsTally (Kid e) reading_depth no_way = subst (λ t. IsTally (Kid e) reading_depth t) gone tally in
              no r kid,
        ),
        kid,
      )

  -- where no reading is too deep, none by a usable entry is
  pub used_shallow : ((r : Reading) → ReadsWhole g tokens start r → reading_depth r ≤ 1000) → (i : ℕ) (e : Entry) → slice_get (entries_at lists 0) i ≡ Some e → Used e → IsShallowEntry g tokens start 0 e
  used_shallow bound i e at used = record {
    sound = full.table.sound 0 i e at;
    low = by_some (none_or (tally_of e.ways));
    useful = useful_at_end g tokens e.maker e.to (ends_last e used);
  }
    where
      by_some : (tally_of e.ways ≡ no_way) ⊎ (tally_of e.ways ≡ no_way → ⊥) → depth_in (tally_of e.ways) ≤ 1000
      by_some (inl none) = rw none (omega arith)
      by_some (inr some) =
          let d = deepest_of (Kid e) reading_depth (tally_of e.ways) (counted i e at used) some in
          let low = bound d.0 (kid_whole e used d.0 d.1) in
          omega (arith, d.2)

  -- where the entries do not part, all readings are the same
  pub not_parted : (i : ℕ) (e : Entry) → IsFirstUsable g start 0 row (entries_at lists 0) 0 (Some (i, e)) → IsForkOf g start 0 row (entries_at lists 0) i e None →
      (one other : Reading) → ReadsWhole g tokens start one → ReadsWhole g tokens start other → one ≡ other
  not_parted i e first fork one other reads reads' =
      one_at_most (Kid e) reading_depth (tally_of e.ways) (counted i e first.1 first.2) fork.0 one other (here one reads) (here other reads')
    where
      here : (r : Reading) → ReadsWhole g tokens start r → Kid e r
      here r reads =
          let u = of_used r reads in
          let same : u.0 ≡ i = only_usable g start 0 row (entries_at lists 0) i e first fork u.0 u.1 u.2 u.3 in
          let is : u.1 ≡ e = same_Some u.1 e (sym (subst (λ k. slice_get (entries_at lists 0) k ≡ Some u.1) same u.2) ∙ first.1) in
          subst (λ x. Kid x r) is u.4

  -- the entries of a fork are shallow, and what reads by them differs
  pub parted : ((r : Reading) → ReadsWhole g tokens start r → reading_depth r ≤ 1000) → (i : ℕ) (e : Entry) → IsFirstUsable g start 0 row (entries_at lists 0) 0 (Some (i, e)) →
      (fork : Fork) → IsForkOf g start 0 row (entries_at lists 0) i e (Some fork) → IsParting g tokens start 0 fork
  parted bound i e first (Apart one other) fork =
      let j = fork.1 in
      let at : slice_get (entries_at lists 0) i ≡ Some one = first.1 ∙ ap Some (sym fork.0) in
      let used : Used one = subst Used (sym fork.0) first.2 in
      record {
        sort = start;
        least = 0;
        one = used_shallow bound i one at used;
        other = used_shallow bound j.0 other j.2 j.3;
        one_fits = used.0;
        other_fits = j.3.0;
        apart = λ makers ends. let same : i ≡ j.0 = full.table.once 0 i j.0 one other at j.2 makers ends in omega (arith, j.1);
      }
  parted bound i e first (Inside entry) fork =
      let at : slice_get (entries_at lists 0) i ≡ Some entry = first.1 ∙ ap Some (sym fork.0) in
      let used : Used entry = subst Used (sym fork.0) first.2 in
      let low = used_shallow bound i entry at used in
      record {
        sort = start;
        least = 0;
        one = low;
        other = low;
        one_fits = used.0;
        other_fits = used.0;
        apart = subst (λ x. IsMore (tally_of x.ways)) (sym fork.0) fork.1;
      }

  -- both entries of a fork are usable
  pub both_used : (i : ℕ) (e : Entry) → IsFirstUsable g start 0 row (entries_at lists 0) 0 (Some (i, e)) →
      (fork : Fork) → IsForkOf g start 0 row (entries_at lists 0) i e (Some fork) → Used (one_of fork) × Used (other_of fork)
  both_used i e first (Apart one other) fork = (subst Used (sym fork.0) first.2, fork.1.3)
  both_used i e first (Inside entry) fork = (subst Used (sym fork.0) first.2, subst Used (sym fork.0) first.2)
