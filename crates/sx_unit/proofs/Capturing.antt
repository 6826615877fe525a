-- The first name that is a literal.
use Rattle.std.proofs.Common.{◌≡◌, ℕ, ◌+◌, ◌<◌, ◌≤◌, List, [], ◌∷◌, ◌++◌, Contains, get_or, length}
use Rattle.std.proofs.Common.{drop, Vec, refl, sym, ap, ◌∙◌, subst}
use Rattle.std.specs.Prelude.{Some, slice_get}
use Rattle.std.specs.declared.alloc.Global.{Global}
use Rattle.std.proofs.lemmas.Option.{slice_get_within, get_or_from_slice_get}
use Rattle.std.proofs.lemmas.List.{append-nil, append_assoc}
use Rattle.sx_term.specs.declared.lex_kind.LexKind.TheVariants.{Id, Num, Str}
use Rattle.sx_term.specs.declared.term.Term.{Term, Node}
use Rattle.sx_term.specs.Tree.{Tree, Trees, node, lexeme, hole, none, ◌▹◌}
use Rattle.sx_term.specs.Term.{tree}
use Rattle.sx_term.proofs.Kids.{trees, tree-at_node, trees-drop, trees-drop_all}
use Rattle.sx_grammar.specs.Grammar.{Text}
use Rattle.sx_print.specs.Cut.{HasLexemes, HaveLexemes}
use Rattle.sx_interface.specs.FreeNames.{AreFree, IsFirstIn}
use Rattle.sx_unit.specs.Captured.{names_standing_in, names_among, IsFree, IsCaptured}

contains_from : (texts : List Text) (i : ℕ) (text : Text) → slice_get texts i ≡ Some text →
    Contains texts text
contains_from texts i text e =
    (i, slice_get_within texts i text e, get_or_from_slice_get texts i text text e)

module _ (literals : List Text) where
  -- ---- the walk over the kids

  free_both : (xs ys : List Text) → AreFree literals xs → AreFree literals ys →
      AreFree literals (xs ++ ys)
  free_both [] ys f g = g
  free_both (a ∷ xs) ys f g = (f.0, free_both xs ys f.1 g)

  first_before : (names more : List Text) (word : Text) → IsFirstIn literals names word →
      IsFirstIn literals (names ++ more) word
  first_before names more word h = record {
    front = h.front;
    rest = h.rest ++ more;
    is = ap (λ (l : List Text). l ++ more) h.is ∙ append_assoc h.front (word ∷ h.rest) more;
    free = h.free;
    literal = h.literal;
  }

  first_behind : (front names : List Text) (word : Text) → AreFree literals front →
      IsFirstIn literals names word → IsFirstIn literals (front ++ names) word
  first_behind front names word f h = record {
    front = front ++ h.front;
    rest = h.rest;
    is = ap (λ (l : List Text). front ++ l) h.is ∙ sym (append_assoc front h.front (word ∷ h.rest));
    free = free_both front h.front f h.free;
    literal = h.literal;
  }

  -- the names in the kids before one are free
  pub record FreeBefore (kids : List Term) (i : ℕ) : Type 0 where
    pub front : List Text
    pub is : names_among (trees kids) ≡ front ++ names_among (trees (drop i kids))
    pub free : AreFree literals front

  pub none_before : (kids : List Term) → FreeBefore kids 0
  none_before kids = record { front = []; is = refl; free = tt }

  names_drop : (kids : List Term) (i : ℕ) (kid : Term) → i < length kids → kid ≡ get_or kids i kid →
      names_among (trees (drop i kids)) ≡ names_standing_in (tree kid) ++ names_among
      (trees (drop (i + 1) kids))
  names_drop kids i kid lt at = ap names_among (trees-drop kids i kid lt at)

  pub free_on : (kids : List Term) (i : ℕ) (kid : Term) → i < length kids →
      kid ≡ get_or kids i kid → FreeBefore kids i → IsFree literals (tree kid) →
      FreeBefore kids (i + 1)
  free_on kids i kid lt at b f = record {
    front = b.front ++ names_standing_in (tree kid);
    is = b.is ∙ ap (λ (l : List Text). b.front ++ l) (names_drop kids i kid lt at)
        ∙ sym (append_assoc b.front (names_standing_in (tree kid))
        (names_among (trees (drop (i + 1) kids))));
    free = free_both b.front (names_standing_in (tree kid)) b.free f;
  }

  module _ (t : Term) (label : ℕ) (kids : Vec Term Global) (is : t ≡ Node label kids) where
    names_are : names_standing_in (tree t) ≡ names_among (trees kids.items)
    names_are = ap names_standing_in (tree-at_node t label kids is)

    pub first_here : (ts : List Term) (i : ℕ) (kid : Term) (word : Text) → ts ≡ kids.items →
        i < length ts → kid ≡ get_or ts i kid → FreeBefore ts i → IsCaptured literals (tree kid)
        word →
        IsCaptured literals (tree t) word
    first_here ts i kid word same lt at b h =
        let all : names_among (trees ts) ≡ b.front ++
        (names_standing_in (tree kid) ++ names_among (trees (drop (i + 1) ts))) = b.is
        ∙ ap (λ (l : List Text). b.front ++ l) (names_drop ts i kid lt at) in
        let there = first_behind b.front
        (names_standing_in (tree kid) ++ names_among (trees (drop (i + 1) ts))) word b.free
        (first_before (names_standing_in (tree kid)) (names_among (trees (drop (i + 1) ts))) word h) in
        subst (λ (l : List Text). IsFirstIn literals l word)
        (sym (names_are ∙ sym (ap (λ (l : List Term). names_among (trees l)) same) ∙ all)) there

    pub all_free : (ts : List Term) (i : ℕ) → ts ≡ kids.items → length ts ≤ i → FreeBefore ts i →
        IsFree literals (tree t)
    all_free ts i same past b =
        let all : names_among (trees ts) ≡ b.front ++ [] = b.is
        ∙ ap (λ (l : Trees). b.front ++ names_among l) (trees-drop_all ts i past) in
        subst (AreFree literals) (sym (names_are
        ∙ sym (ap (λ (l : List Term). names_among (trees l)) same) ∙ all ∙ append-nil b.front))
        b.free

  -- ---- one name

  pub one_first : (i : ℕ) (text : Text) → slice_get literals i ≡ Some text →
      IsFirstIn literals (text ∷ []) text
  one_first i text e = record {
    front = [];
    rest = [];
    is = refl;
    free = tt;
    literal =
        contains_from literals i text e;
  }

-- ---- what has free names can be printed

left_free : (literals : List Text) (xs ys : List Text) → AreFree literals (xs ++ ys) →
    AreFree literals xs
left_free literals [] ys f = tt
left_free literals (a ∷ xs) ys f = (f.0, left_free literals xs ys f.1)

right_free : (literals : List Text) (xs ys : List Text) → AreFree literals (xs ++ ys) →
    AreFree literals ys
right_free literals [] ys f = f
right_free literals (a ∷ xs) ys f = right_free literals xs ys f.1

-- tokens that are no literals of a language are none of a dialect, where no name is
module _ (few many : List Text) where
  mutual
    pub free_lexemes : (t : Tree) → HasLexemes few t → IsFree many t → HasLexemes many t
    free_lexemes (node label kids) h f = all_free_lexemes kids h f
    free_lexemes (lexeme Id text) h f = (f.0, h.1)
    free_lexemes (lexeme Num text) h f = h
    free_lexemes (lexeme Str text) h f = h
    free_lexemes (hole v) h f = tt

    all_free_lexemes : (ts : Trees) → HaveLexemes few ts → AreFree many (names_among ts) →
        HaveLexemes many ts
    all_free_lexemes none h f = tt
    all_free_lexemes (t ▹ ts) h f = (
      free_lexemes t h.0 (left_free many (names_standing_in t) (names_among ts) f),
      all_free_lexemes ts h.1 (right_free many (names_standing_in t) (names_among ts) f),
    )
