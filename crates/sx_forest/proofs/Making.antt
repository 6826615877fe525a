-- Readings by a head, of the readings of its symbols.
use Rattle.std.proofs.Common.{◌≡◌, ℕ, suc, ◌+◌, List, [], ◌∷◌, Some, refl, sym, subst, ap, ◌∙◌, arith}
use Rattle.sx_grammar.specs.declared.head.Head.{Head}
use Rattle.sx_grammar.specs.declared.head.Head.TheVariants.{Labelled, Bracketed}
use Rattle.sx_grammar.specs.Grammar.{literal, part, Production, Grammar, Token, production_of}
use Rattle.sx_grammar.specs.Grammar.{pair_of}
use Rattle.sx_grammar.specs.Reading.{IsLiteral, Reading, Readings, branch, bracket, done, ◌▸◌}
use Rattle.sx_grammar.specs.Reading.{Reads, by_production, by_brackets, ReadsAll, all_read}
use Rattle.sx_grammar.specs.Reading.{by_literal, by_part, reading_depth, readings_depth, ReadsBy}
use Rattle.sx_grammar.proofs.Soundness.{bracket_head}
use Rattle.sx_forest.specs.Forests.{IsReadingMade, HasKids}

module _ (g : Grammar) (tokens : List Token) where
  one_kid : (s from to : ℕ) (o c : List ℕ) (ks : Readings) → ReadsAll g tokens (literal o ∷ part s 0 ∷ literal c ∷ []) from to ks → (r : Reading) × (ks ≡ r ▸ done)
  one_kid s from to o c ks (by_literal a (by_part {kid = kid} k (by_literal b all_read))) = (kid, refl)

  three_read : (s from to : ℕ) (o c : List ℕ) (r : Reading) → ReadsAll g tokens (literal o ∷ part s 0 ∷ literal c ∷ []) from to (r ▸ done) →
      (last : ℕ) × IsLiteral tokens from o × Reads g tokens s 0 (suc from) last r × IsLiteral tokens last c × (to ≡ suc last)
  three_read s from to o c r (by_literal a (by_part {middle = middle} k (by_literal b all_read))) = (middle, a, k, b, refl)

  -- the symbols of a bracket pair
  pair_read : (s : ℕ) (p : Production) (from to : ℕ) (ks : Readings) → (e : production_of g (Bracketed s) ≡ Some p) → ReadsAll g tokens p.symbols from to ks →
      ReadsAll g tokens (literal (bracket_head g tokens s (pair_of g s) p e).0.opening ∷ part s 0 ∷ literal (bracket_head g tokens s (pair_of g s) p e).0.closing ∷ []) from to ks
  pair_read s p from to ks e all = subst (λ q. ReadsAll g tokens q.symbols from to ks) (bracket_head g tokens s (pair_of g s) p e).2 all

  -- what reads the symbols are kids of the head
  pub are_kids : (head : Head) (p : Production) (from to : ℕ) (ks : Readings) → production_of g head ≡ Some p → ReadsAll g tokens p.symbols from to ks → HasKids head ks
  are_kids (Labelled label) p from to ks e all = tt
  are_kids (Bracketed s) p from to ks e all =
      let b = bracket_head g tokens s (pair_of g s) p e in one_kid s from to b.0.opening b.0.closing ks (pair_read s p from to ks e all)

  -- what is made of them reads by the head
  pub made_reads : (head : Head) (p : Production) (from to : ℕ) (ks : Readings) (r : Reading) → production_of g head ≡ Some p → ReadsAll g tokens p.symbols from to ks →
      IsReadingMade head ks from to r → ReadsBy g tokens head p.sort from to r
  made_reads (Labelled label) p from to ks r e all made = ((ks, made), rw made (by_production {least = 0} e (omega arith) all))
  made_reads (Bracketed s) p from to ks r e all made =
      let b = bracket_head g tokens s (pair_of g s) p e in
      let inner = made.0 in
      let h = three_read s from to b.0.opening b.0.closing inner (subst (λ l. ReadsAll g tokens (literal b.0.opening ∷ part s 0 ∷ literal b.0.closing ∷ []) from to l) made.1 (pair_read s p from to ks e all)) in
      let P : ℕ → Type 0 = λ x. Reads g tokens s 0 from x (bracket inner from x) in
      let reads : Reads g tokens s 0 from to (bracket inner from to) = subst P (sym h.4) (by_brackets b.1 h.1 h.2 h.3) in
      let reads' : Reads g tokens s 0 from to r = subst (λ x. Reads g tokens s 0 from to x) (sym made.2) reads in
      let sort : s ≡ p.sort = sym (ap (λ q. q.sort) b.2) in
      ((inner, made.2), subst (λ x. Reads g tokens x 0 from to r) sort reads')

-- there is such a reading
pub can_make : (head : Head) (ks : Readings) (from to : ℕ) → HasKids head ks → (r : Reading) × IsReadingMade head ks from to r
can_make (Labelled label) ks from to h = (branch label ks from to, refl)
can_make (Bracketed s) ks from to h = (bracket h.0 from to, (h.0, h.1, refl))

-- it is one deeper than they
pub made_depth : (head : Head) (ks : Readings) (from to : ℕ) (r : Reading) → IsReadingMade head ks from to r → reading_depth r ≡ readings_depth ks + 1
made_depth (Labelled label) ks from to r made = ap reading_depth made
made_depth (Bracketed s) ks from to r made =
    let a : reading_depth r ≡ reading_depth (bracket made.0 from to) = ap reading_depth made.2 in
    let b : readings_depth ks ≡ readings_depth (made.0 ▸ done) = ap readings_depth made.1 in
    omega (arith, a, b)

abbrev kids_in : Reading → Readings
kids_in (branch label kids from to) = kids
kids_in (bracket inner from to) = inner ▸ done
kids_in r = done

-- readings of different kids are different
pub made_same : (head : Head) (ks ls : Readings) (from to : ℕ) (r : Reading) → IsReadingMade head ks from to r → IsReadingMade head ls from to r → ks ≡ ls
made_same (Labelled label) ks ls from to r a b = sym (ap kids_in a) ∙ ap kids_in b
made_same (Bracketed s) ks ls from to r a b = a.1 ∙ (sym (ap kids_in a.2) ∙ (ap kids_in b.2 ∙ sym b.1))
