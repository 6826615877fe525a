use Rattle.std.proofs.Common.{◌≡◌, ℕ, ◌&&◌, Bool, true, false, List, [], ◌∷◌, refl, sym, ap, arith}
use Rattle.std.specs.Prelude.{nat_eq}
use Rattle.std.specs.Cmp.Lexicographic.{pointwise, same_text}
use Rattle.std.proofs.lemmas.Bool.{eq-eqb}
use Rattle.sx_term.specs.declared.lex_kind.LexKind.{LexKind}
use Rattle.sx_term.specs.declared.lex_kind.LexKind.TheVariants.{Id, Num, Str}
use Rattle.sx_term.specs.Tree.{Tree, Trees, node, lexeme, hole, none, ◌▹◌}
use Rattle.sx_arena.specs.Matching.{same_kind, same, same_kids, same_all}

pub and_left : (a b : Bool) → (a && b) ≡ true → a ≡ true
and_left true b e = refl
and_left false b e = e

pub and_right : (a b : Bool) → (a && b) ≡ true → b ≡ true
and_right true b e = e
and_right false b e = cc

pub and_both : (a b : Bool) → a ≡ true → b ≡ true → (a && b) ≡ true
and_both true b e f = f
and_both false b e f = e

pub nat_same : (l m : ℕ) → nat_eq l m ≡ true → l ≡ m
nat_same l m e = grind (arith, e)

pub kind_same : (k m : LexKind) → same_kind k m ≡ true → k ≡ m
kind_same Id Id e = refl
kind_same Num Num e = refl
kind_same Str Str e = refl
kind_same _ _ e = cc

pub kind_self : (k : LexKind) → same_kind k k ≡ true
kind_self Id = refl
kind_self Num = refl
kind_self Str = refl

pub text_self : (x : List ℕ) → pointwise nat_eq x x ≡ true
text_self [] = refl
text_self (a ∷ x) = and_both (nat_eq a a) (pointwise nat_eq x x) (eq-eqb a a refl) (text_self x)

mutual
  pub same_true : (t u : Tree) → same t u ≡ true → t ≡ u
  same_true (node l ts) (node m us) e =
      let a = nat_same l m (and_left (nat_eq l m) (same_kids ts us) e) in
      let b = same_kids_true ts us (and_right (nat_eq l m) (same_kids ts us) e) in cc
  same_true (lexeme k x) (lexeme m y) e =
      let a = kind_same k m (and_left (same_kind k m) (pointwise nat_eq x y) e) in
      let b = same_text x y (sym (and_right (same_kind k m) (pointwise nat_eq x y) e)) in cc
  same_true (hole v) (hole w) e = ap hole (nat_same v w e)
  same_true _ _ e = cc

  pub same_kids_true : (ts us : Trees) → same_kids ts us ≡ true → ts ≡ us
  same_kids_true none none e = refl
  same_kids_true (t ▹ ts) (u ▹ us) e =
      let a = same_true t u (and_left (same t u) (same_kids ts us) e) in
      let b = same_kids_true ts us (and_right (same t u) (same_kids ts us) e) in cc
  same_kids_true _ _ e = cc

mutual
  pub same_self : (t : Tree) → same t t ≡ true
  same_self (node l ts) = and_both (nat_eq l l) (same_kids ts ts) (eq-eqb l l refl) (same_kids_self ts)
  same_self (lexeme k x) = and_both (same_kind k k) (pointwise nat_eq x x) (kind_self k) (text_self x)
  same_self (hole v) = eq-eqb v v refl

  pub same_kids_self : (ts : Trees) → same_kids ts ts ≡ true
  same_kids_self none = refl
  same_kids_self (t ▹ ts) = and_both (same t t) (same_kids ts ts) (same_self t) (same_kids_self ts)

pub same_all_true : (ts us : List Tree) → same_all ts us ≡ true → ts ≡ us
same_all_true [] [] e = refl
same_all_true (t ∷ ts) (u ∷ us) e =
    let a = same_true t u (and_left (same t u) (same_all ts us) e) in
    let b = same_all_true ts us (and_right (same t u) (same_all ts us) e) in cc
same_all_true _ _ e = cc

pub same_all_self : (ts : List Tree) → same_all ts ts ≡ true
same_all_self [] = refl
same_all_self (t ∷ ts) = and_both (same t t) (same_all ts ts) (same_self t) (same_all_self ts)
