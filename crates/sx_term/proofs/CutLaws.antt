-- A text is cut in one way.
use Rattle.std.proofs.Common.{◌≡◌, ℕ, ◌<◌, ◌≤◌, List, [], ◌∷◌, ◌++◌, length, IsTrue, Bool, inl, inr, ◌⊎◌, Some, sym, refl, ap, ◌∙◌, subst, append_assoc, length-append, ⊎_elim, arith}
use Rattle.std.proofs.lemmas.Bool.{cases_lt}
use Rattle.std.specs.Prelude.{slice_get, Contains}
use Rattle.std.specs.Str.{IsUtf8, IsValidUpTo}
use Rattle.std.specs.Char.{encode_utf8, is_ascii_digit}
use Rattle.std.proofs.Math.Seq.{take-length}
use Rattle.std.proofs.lemmas.List.{append-nil}
use Rattle.std.proofs.lemmas.Str.{length-encode, len_utf8_bounds}
use Rattle.std.proofs.lemmas.Option.{slice_get_within, get_or_from_slice_get}
use Rattle.sx_term.specs.declared.lex_kind.LexKind.TheVariants.{Id, Num, Str}
use Rattle.sx_term.specs.declared.mark.Mark.{Mark}
use Rattle.sx_term.specs.declared.mark.Mark.TheVariants.{Lit, Lex, Meta}
use Rattle.sx_term.specs.Cutting.{is_in_line, is_in_string, IsMaximalRun, IsWord, IsString, BeginsComment, IsLongestSymbol, Stands, StandsAt, Skips, Piece, Cuts, done, skip, piece, IsStuck, IsOpenString, IsBadToken, Outcome, tokens, not_utf8, bad_token, too_many, open_string, ComesTo, IsOutcome, AreDistinct}
use Rattle.sx_term.proofs.RunLaws.{IsMaximalRun-same, IsWord-same, IsString-same}
use Rattle.sx_term.proofs.Firsts.{Class, Word, Digit, Quote, Tilde, Blank, Symbol, HasClass, HasClass-same, HasClass-quote, HasClass-word, HasClass-number, HasClass-string, HasClass-tilde, HasClass-symbols, HasClass-blank, HasClass-symbol}

-- a literal at a place of the list is one of the list
pub Contains-at : (xs : List (List ℕ)) (i : ℕ) (x : List ℕ) → slice_get xs i ≡ Some x → Contains xs x
Contains-at xs i x e = (i, slice_get_within xs i x e, get_or_from_slice_get xs i x x e)

-- the marks that a word can have
abbrev pub WordMark : List (List ℕ) → Mark → List ℕ → Type 0
WordMark literals (Lit i) text = slice_get literals i ≡ Some text
WordMark literals (Lex Id) text = ¬ (Contains literals text)
WordMark literals (Lex Num) text = ⊥
WordMark literals (Lex Str) text = ⊥
WordMark literals Meta text = ⊥

WordMark-same : (literals : List (List ℕ)) (m n : Mark) (text : List ℕ) → AreDistinct literals → WordMark literals m text → WordMark literals n text → m ≡ n
WordMark-same literals (Lit i) (Lit j) text distinct a b = ap Lit (distinct i j text a b)
WordMark-same literals (Lit i) (Lex Id) text distinct a b = absurd (b (Contains-at literals i text a))
WordMark-same literals (Lit i) (Lex Num) text distinct a b = absurd b
WordMark-same literals (Lit i) (Lex Str) text distinct a b = absurd b
WordMark-same literals (Lit i) Meta text distinct a b = absurd b
WordMark-same literals (Lex Id) (Lit j) text distinct a b = absurd (a (Contains-at literals j text b))
WordMark-same literals (Lex Id) (Lex Id) text distinct a b = refl
WordMark-same literals (Lex Id) (Lex Num) text distinct a b = absurd b
WordMark-same literals (Lex Id) (Lex Str) text distinct a b = absurd b
WordMark-same literals (Lex Id) Meta text distinct a b = absurd b
WordMark-same literals (Lex Num) n text distinct a b = absurd a
WordMark-same literals (Lex Str) n text distinct a b = absurd a
WordMark-same literals Meta n text distinct a b = absurd a

-- a token by the class of its first character
pub data Classed (literals : List (List ℕ)) (metas : Bool) : Class → Mark → List ℕ → List ℕ → Type 0 where
  word : {mark : Mark} {text rest : List ℕ} → WordMark literals mark text → IsWord text rest → Classed literals metas Word mark text rest
  number : {text rest : List ℕ} → IsMaximalRun is_ascii_digit text rest → Classed literals metas Digit (Lex Num) text rest
  string : {text rest : List ℕ} → IsString text rest → Classed literals metas Quote (Lex Str) text rest
  symbol : {i : ℕ} {text rest : List ℕ} → slice_get literals i ≡ Some text → IsLongestSymbol literals text rest → Classed literals metas Symbol (Lit i) text rest
  meta : {text rest : List ℕ} → IsTrue metas → (w : List ℕ) → text ≡ 126 ∷ w → IsWord w rest → Classed literals metas Tilde Meta text rest

-- a token has a class, which its first character has
abbrev Classified : List (List ℕ) → Bool → Mark → List ℕ → List ℕ → Type 0
Classified literals metas mark text rest = (k : Class) × HasClass k (text ++ rest) × Classed literals metas k mark text rest

classified : (literals : List (List ℕ)) (metas : Bool) (mark : Mark) (text rest : List ℕ) → Stands literals metas mark text rest → Classified literals metas mark text rest
classified literals metas (Lit i) text rest (e, inl w) = (Word, HasClass-word text rest w, word e w)
classified literals metas (Lit i) text rest (e, inr s) = (Symbol, HasClass-symbols text rest s.symbols, symbol e s)
classified literals metas (Lex Id) text rest (absent, w) = (Word, HasClass-word text rest w, word absent w)
classified literals metas (Lex Num) text rest (some, run) = (Digit, HasClass-number text rest some run, number run)
classified literals metas (Lex Str) text rest s = (Quote, HasClass-string text rest s, string s)
classified literals metas Meta text rest (on, (w, e, is)) = (Tilde, subst (HasClass Tilde) (ap (λ t. t ++ rest) (sym e)) (HasClass-tilde (w ++ rest)), meta on w e is)

tail_same : {a b : ℕ} {x y : List ℕ} → a ∷ x ≡ b ∷ y → x ≡ y
tail_same e = cc

-- fronts of one text that are as long as each other are the same
fronts_same : (a b x y : List ℕ) → length a ≡ length b → a ++ x ≡ b ++ y → (a ≡ b) × (x ≡ y)
fronts_same [] [] x y l e = (refl, e)
fronts_same [] (c ∷ b) x y l e = absurd (omega (arith, l))
fronts_same (c ∷ a) [] x y l e = absurd (omega (arith, l))
fronts_same (c ∷ a) (d ∷ b) x y l e =
    let k : length a ≡ length b = omega (arith, l) in
    let same = fronts_same a b x y k (tail_same e) in
    let h : c ≡ d = cc in
    ((λ i. h i ∷ same.0 i), same.1)

-- what two tokens at one place have in common
abbrev SameToken : Mark → Mark → List ℕ → List ℕ → List ℕ → List ℕ → Type 0
SameToken m n a b x y = (m ≡ n) × (a ≡ b) × (x ≡ y)

Classed-same : {literals : List (List ℕ)} {metas : Bool} {k : Class} {m n : Mark} {a b x y : List ℕ} → AreDistinct literals → Classed literals metas k m a x → Classed literals metas k n b y → a ++ x ≡ b ++ y → SameToken m n a b x y
Classed-same {literals} {m = m} {n = n} {a = a} {b = b} {x = x} {y = y} distinct (word p w) (word q v) e =
    let same = IsWord-same a b x y w v e in
    (WordMark-same literals m n b distinct (subst (WordMark literals m) same.0 p) q, same.0, same.1)
Classed-same {a = a} {b = b} {x = x} {y = y} distinct (number r) (number s) e = let same = IsMaximalRun-same is_ascii_digit a b x y r s e in (refl, same.0, same.1)
Classed-same {a = a} {b = b} {x = x} {y = y} distinct (string r) (string s) e = let same = IsString-same a b x y r s e in (refl, same.0, same.1)
Classed-same {literals} {a = a} {b = b} {x = x} {y = y} distinct (symbol {i = i} p r) (symbol {i = j} q s) e =
    let below = s.longest a x (Contains-at literals i a p) r.symbols (sym e) in
    let above = r.longest b y (Contains-at literals j b q) s.symbols e in
    let same = fronts_same a b x y (omega (arith, below, above)) e in
    (ap Lit (distinct i j b (subst (λ t. slice_get literals i ≡ Some t) same.0 p) q), same.0, same.1)
Classed-same {a = a} {b = b} {x = x} {y = y} distinct (meta on w p is) (meta too v q other) e =
    let same = IsWord-same w v x y is other (tail_same (ap (λ t. t ++ x) (sym p) ∙ e ∙ ap (λ t. t ++ y) q)) in
    (refl, p ∙ ap (λ t. 126 ∷ t) same.0 ∙ sym q, same.1)

-- at a place stands one token at most
pub Stands-same : (literals : List (List ℕ)) (metas : Bool) (m n : Mark) (a b x y : List ℕ) → AreDistinct literals → Stands literals metas m a x → Stands literals metas n b y → a ++ x ≡ b ++ y → SameToken m n a b x y
Stands-same literals metas m n a b x y distinct p q e =
    let one = classified literals metas m a x p in
    let other = classified literals metas n b y q in
    let k = HasClass-same (a ++ x) one.1 (subst (HasClass other.0) (sym e) other.1) in
    Classed-same distinct (subst (λ c. Classed literals metas c m a x) k one.2) other.2 e

-- a blank or a comment has a class, and no token begins there
pub skip_class : (text rest : List ℕ) → Skips text rest → HasClass Blank text ⊎ HasClass Symbol text
skip_class text rest (inl (b, h, e)) = inl (subst (HasClass Blank) (sym e) (HasClass-blank b rest h))
skip_class text rest (inr (line, e, run)) = inr (subst (HasClass Symbol) (sym e) (HasClass-symbol 47 (47 ∷ line ++ rest) refl))

pub Skips-same : (text x y : List ℕ) → Skips text x → Skips text y → x ≡ y
Skips-same text x y (inl (b, h, e)) (inl (c, k, f)) = tail_same (sym e ∙ f)
Skips-same text x y (inl (b, h, e)) (inr (line, f, run)) =
    let clash : Blank ≡ Symbol = HasClass-same text (subst (HasClass Blank) (sym e) (HasClass-blank b x h)) (subst (HasClass Symbol) (sym f) (HasClass-symbol 47 (47 ∷ line ++ y) refl)) in cc
Skips-same text x y (inr (line, f, run)) (inl (b, h, e)) =
    let clash : Blank ≡ Symbol = HasClass-same text (subst (HasClass Blank) (sym e) (HasClass-blank b y h)) (subst (HasClass Symbol) (sym f) (HasClass-symbol 47 (47 ∷ line ++ x) refl)) in cc
Skips-same text x y (inr (line, e, run)) (inr (mine, f, ran)) = (IsMaximalRun-same is_in_line line mine x y run ran (tail_same (tail_same (sym e ∙ f)))).1

no_blank_token : {literals : List (List ℕ)} {metas : Bool} {m : Mark} {a x : List ℕ} → Classed literals metas Blank m a x → ⊥
no_blank_token h = elim h [ ]

symbol_token : {literals : List (List ℕ)} {metas : Bool} {m : Mark} {a x : List ℕ} → Classed literals metas Symbol m a x → ¬ (BeginsComment (a ++ x))
symbol_token (symbol p s) = s.no_comment

-- a token has the class of the text that it begins
pub at_class : (literals : List (List ℕ)) (metas : Bool) (k : Class) (m : Mark) (text a x : List ℕ) → HasClass k text → Stands literals metas m a x → text ≡ a ++ x → Classed literals metas k m a x
at_class literals metas k m text a x has stands e =
    let one = classified literals metas m a x stands in
    subst (λ c. Classed literals metas c m a x) (HasClass-same text (subst (HasClass one.0) (sym e) one.1) has) one.2

pub Skips-no_token : (literals : List (List ℕ)) (metas : Bool) (m : Mark) (text a rest x : List ℕ) → Skips text rest → Stands literals metas m a x → text ≡ a ++ x → ⊥
Skips-no_token literals metas m text a rest x (inl (b, h, e)) stands f =
    no_blank_token (at_class literals metas Blank m text a x (subst (HasClass Blank) (sym e) (HasClass-blank b rest h)) stands f)
Skips-no_token literals metas m text a rest x (inr (line, e, run)) stands f =
    symbol_token (at_class literals metas Symbol m text a x (subst (HasClass Symbol) (sym e) (HasClass-symbol 47 (47 ∷ line ++ rest) refl)) stands f) (line ++ rest, sym f ∙ e)

-- nothing begins an empty text, and nothing begins an open string
empty_class : (k : Class) → ¬ (HasClass k [])
empty_class k (c, tail, e, h) = absurd (omega (arith, ap length e, length-append (encode_utf8 c) tail, length-encode c, (len_utf8_bounds c).0))

pub IsStuck-nil : (literals : List (List ℕ)) (metas : Bool) → IsStuck literals metas []
IsStuck-nil literals metas = record {
  no_skip = λ rest h. elim (skip_class [] rest h) [ inl k ↦ empty_class Blank k | inr k ↦ empty_class Symbol k ];
  no_token = λ mark token rest e stands. let one = classified literals metas mark token rest stands in empty_class one.0 (subst (HasClass one.0) (sym e) one.1);
}

quote_token : {literals : List (List ℕ)} {metas : Bool} {m : Mark} {a x : List ℕ} → Classed literals metas Quote m a x → IsString a x
quote_token (string s) = s

open_quote : (text : List ℕ) → IsOpenString text → HasClass Quote text
open_quote text (inside, rest, e, run, none) = subst (HasClass Quote) (sym e) (HasClass-quote (inside ++ rest))

no_close : (text a x : List ℕ) → IsOpenString text → IsString a x → text ≡ a ++ x → ⊥
no_close text a x (inside, rest, e, run, none) (mine, f, ran) g =
    none x (IsMaximalRun-same is_in_string inside mine rest (34 ∷ x) run ran
    (tail_same (sym e ∙ g ∙ ap (λ t. t ++ x) f) ∙ append_assoc mine (34 ∷ []) x)).1

pub IsStuck-open : (literals : List (List ℕ)) (metas : Bool) (text : List ℕ) → IsOpenString text → IsStuck literals metas text
IsStuck-open literals metas text open' = record {
  no_skip = λ rest h. elim (skip_class text rest h) [
    | inl k ↦ (let clash : Blank ≡ Quote = HasClass-same text k (open_quote text open') in cc)
    | inr k ↦ (let clash : Symbol ≡ Quote = HasClass-same text k (open_quote text open') in cc)
  ];
  no_token = λ mark token rest e stands. no_close text token rest open' (quote_token (at_class literals metas Quote mark text token rest (open_quote text open') stands e)) e;
}

-- two tokens at one place are the same, their places too
piece_same : {literals : List (List ℕ)} {metas : Bool} {size : ℕ} {t u : Piece} {text x y : List ℕ} → AreDistinct literals → StandsAt literals metas size t text x → StandsAt literals metas size u text y → (t ≡ u) × (x ≡ y)
piece_same {literals} {metas} {size} {t} {u} {text} {x} {y} distinct p q =
    let same = Stands-same literals metas t.mark u.mark t.text u.text x y distinct p.stands q.stands (sym p.split ∙ q.split) in
    let starts : t.from ≡ u.from = omega (arith, p.from, q.from) in
    let ends : t.to ≡ u.to = omega (arith, p.to, q.to, ap length same.2) in
    ((λ i. record { mark = same.0 i; text = same.1 i; from = starts i; to = ends i }), same.2)

-- a cutting that ends where nothing begins goes on from each other cutting
pub Cuts-rest : {literals : List (List ℕ)} {metas : Bool} {size : ℕ} {text r s : List ℕ} {ts us : List Piece} → AreDistinct literals → IsStuck literals metas s
    → Cuts literals metas size text ts r → Cuts literals metas size text us s → (vs : List Piece) × (us ≡ ts ++ vs) × Cuts literals metas size r vs s
Cuts-rest {us = us} distinct stuck done d = (us, refl, d)
Cuts-rest distinct stuck (skip k c) done = absurd (stuck.no_skip _ k)
Cuts-rest {literals} {metas} {size} {s = s} {us = us} distinct stuck (skip {text = text} {more = x} k c) (skip {more = y} l d) = Cuts-rest distinct stuck c (subst (λ m. Cuts literals metas size m us s) (Skips-same text y x l k) d)
Cuts-rest {literals} {metas} distinct stuck (skip {text = text} {more = x} k c) (piece {more = y} {t = u} q d) = absurd (Skips-no_token literals metas u.mark text u.text x y k q.stands q.split)
Cuts-rest distinct stuck (piece {more = x} {t = t} p c) done = absurd (stuck.no_token t.mark t.text x p.split p.stands)
Cuts-rest {literals} {metas} distinct stuck (piece {text = text} {more = x} {t = t} p c) (skip {more = y} l d) = absurd (Skips-no_token literals metas t.mark text t.text y x l p.stands p.split)
Cuts-rest {literals} {metas} {size} {s = s} distinct stuck (piece {text = text} {more = x} {t = t} p c) (piece {more = y} {t = u} {ts = us} q d) =
    let same = piece_same distinct p q in
    let others = Cuts-rest distinct stuck c (subst (λ m. Cuts literals metas size m us s) (sym same.1) d) in
    (others.0, (λ i. sym same.0 i ∷ others.1 i), others.2)

stays : {literals : List (List ℕ)} {metas : Bool} {size : ℕ} {r s : List ℕ} {vs : List Piece} → IsStuck literals metas r → Cuts literals metas size r vs s → (vs ≡ []) × (r ≡ s)
stays stuck done = (refl, refl)
stays stuck (skip k c) = absurd (stuck.no_skip _ k)
stays stuck (piece {more = x} {t = t} p c) = absurd (stuck.no_token t.mark t.text x p.split p.stands)

-- two cuttings that end where nothing begins are the same
pub Cuts-same : {literals : List (List ℕ)} {metas : Bool} {size : ℕ} {text r s : List ℕ} {ts us : List Piece} → AreDistinct literals → IsStuck literals metas r → IsStuck literals metas s
    → Cuts literals metas size text ts r → Cuts literals metas size text us s → (ts ≡ us) × (r ≡ s)
Cuts-same {ts = ts} distinct one other c d =
    let rest = Cuts-rest distinct other c d in
    let ends = stays one rest.2 in
    (sym (append-nil ts) ∙ ap (λ v. ts ++ v) (sym ends.0) ∙ sym rest.1, ends.1)

-- a cutting with more tokens than one that ends where nothing begins doesn't stand
few_not_many : {literals : List (List ℕ)} {metas : Bool} {size : ℕ} {text r s : List ℕ} {ts us : List Piece} → AreDistinct literals → IsStuck literals metas s
    → Cuts literals metas size text us s → length us ≤ 10000 → Cuts literals metas size text ts r → length ts ≡ 10001 → ⊥
few_not_many {ts = ts} distinct stuck d few c many =
    let rest = Cuts-rest distinct stuck c d in
    omega (arith, few, many, ap length rest.1, length-append ts rest.0)

valid_no_utf8 : (bytes : List ℕ) (n : ℕ) → IsValidUpTo bytes n → IsUtf8 bytes → ⊥
valid_no_utf8 bytes n v u = v.longest (length bytes) v.short (subst IsUtf8 (sym (take-length bytes)) u)

valid_same : (bytes : List ℕ) (m n : ℕ) → IsValidUpTo bytes m → IsValidUpTo bytes n → m ≡ n
valid_same bytes m n v w = ⊎_elim (λ lt. absurd (v.longest n lt w.front)) (λ le. ⊎_elim (λ lt. absurd (w.longest m lt v.front)) (λ ge. omega (arith, le, ge)) (cases_lt n m)) (cases_lt m n)

-- two rests of one kind stand at one place
place_same : {literals : List (List ℕ)} {metas : Bool} {bytes : List ℕ} {P Q : List ℕ → Type 0} {i j : ℕ} → AreDistinct literals
    → ((rest : List ℕ) → P rest → IsStuck literals metas rest) → ((rest : List ℕ) → Q rest → IsStuck literals metas rest)
    → ComesTo literals metas bytes P i → ComesTo literals metas bytes Q j → (rest : List ℕ) × P rest × Q rest × (i ≡ j)
place_same {Q = Q} distinct one other p q =
    let same = Cuts-same distinct (one p.rest p.is) (other q.rest q.is) p.cuts q.cuts in
    (p.rest, p.is, subst Q (sym same.1) q.is, omega (arith, p.at, q.at, ap length same.1))

abbrev Tokens : List (List ℕ) → Bool → List ℕ → List Piece → Type 0
Tokens literals metas bytes ts = IsUtf8 bytes × (length ts ≤ 10000) × Cuts literals metas (length bytes) bytes ts []

abbrev Many : List (List ℕ) → Bool → List ℕ → Type 0
Many literals metas bytes = IsUtf8 bytes × ((ts : List Piece) × (rest : List ℕ) × (length ts ≡ 10001) × Cuts literals metas (length bytes) bytes ts rest)

module _ (literals : List (List ℕ)) (metas : Bool) (bytes : List ℕ) (distinct : AreDistinct literals) where
  bad_stuck : (rest : List ℕ) → IsBadToken literals metas rest → IsStuck literals metas rest
  bad_stuck rest bad = bad.stuck

  no_both : (P : List ℕ → Type 0) (i : ℕ) (ts : List Piece) → ((rest : List ℕ) → P rest → IsStuck literals metas rest) → ((rest : List ℕ) → P rest → 0 < length rest)
      → Tokens literals metas bytes ts → ComesTo literals metas bytes P i → ⊥
  no_both P i ts stuck some t p =
      let same = Cuts-same distinct (IsStuck-nil literals metas) (stuck p.rest p.is) t.2 p.cuts in
      absurd (omega (arith, some p.rest p.is, ap length same.1))

  open_some : (rest : List ℕ) → IsOpenString rest → 0 < length rest
  open_some rest (inside, more, e, run, none) = omega (arith, ap length e)

  no_many : (P : List ℕ → Type 0) (i : ℕ) → ((rest : List ℕ) → P rest → IsStuck literals metas rest) → Many literals metas bytes → ComesTo literals metas bytes P i → ⊥
  no_many P i stuck m p = few_not_many distinct (stuck p.rest p.is) p.cuts p.few m.1.3 m.1.2

  bad_open : (i j : ℕ) → ComesTo literals metas bytes (IsBadToken literals metas) i → ComesTo literals metas bytes IsOpenString j → ⊥
  bad_open i j p q =
      let both = place_same distinct bad_stuck (IsStuck-open literals metas) p q in
      both.1.no_quote _ both.2.2

  pub IsOutcome-same : (one other : Outcome) → IsOutcome literals metas bytes one → IsOutcome literals metas bytes other → one ≡ other
  IsOutcome-same (tokens ts) (tokens us) p q = ap tokens (Cuts-same distinct (IsStuck-nil literals metas) (IsStuck-nil literals metas) p.2 q.2).0
  IsOutcome-same (tokens ts) (not_utf8 j) p q = absurd (valid_no_utf8 bytes j q p.0)
  IsOutcome-same (tokens ts) (bad_token j) p q = absurd (no_both (IsBadToken literals metas) j ts bad_stuck (λ rest bad. bad.nonempty) p q)
  IsOutcome-same (tokens ts) too_many p q = absurd (few_not_many distinct (IsStuck-nil literals metas) p.2 p.1 q.1.3 q.1.2)
  IsOutcome-same (tokens ts) (open_string j) p q = absurd (no_both IsOpenString j ts (IsStuck-open literals metas) open_some p q)
  IsOutcome-same (not_utf8 i) (tokens us) p q = absurd (valid_no_utf8 bytes i p q.0)
  IsOutcome-same (not_utf8 i) (not_utf8 j) p q = ap not_utf8 (valid_same bytes i j p q)
  IsOutcome-same (not_utf8 i) (bad_token j) p q = absurd (valid_no_utf8 bytes i p q.utf8)
  IsOutcome-same (not_utf8 i) too_many p q = absurd (valid_no_utf8 bytes i p q.0)
  IsOutcome-same (not_utf8 i) (open_string j) p q = absurd (valid_no_utf8 bytes i p q.utf8)
  IsOutcome-same (bad_token i) (tokens us) p q = absurd (no_both (IsBadToken literals metas) i us bad_stuck (λ rest bad. bad.nonempty) q p)
  IsOutcome-same (bad_token i) (not_utf8 j) p q = absurd (valid_no_utf8 bytes j q p.utf8)
  IsOutcome-same (bad_token i) (bad_token j) p q = ap bad_token (place_same distinct bad_stuck bad_stuck p q).3
  IsOutcome-same (bad_token i) too_many p q = absurd (no_many (IsBadToken literals metas) i bad_stuck q p)
  IsOutcome-same (bad_token i) (open_string j) p q = absurd (bad_open i j p q)
  IsOutcome-same too_many (tokens us) p q = absurd (few_not_many distinct (IsStuck-nil literals metas) q.2 q.1 p.1.3 p.1.2)
  IsOutcome-same too_many (not_utf8 j) p q = absurd (valid_no_utf8 bytes j q p.0)
  IsOutcome-same too_many (bad_token j) p q = absurd (no_many (IsBadToken literals metas) j bad_stuck p q)
  IsOutcome-same too_many too_many p q = refl
  IsOutcome-same too_many (open_string j) p q = absurd (no_many IsOpenString j (IsStuck-open literals metas) p q)
  IsOutcome-same (open_string i) (tokens us) p q = absurd (no_both IsOpenString i us (IsStuck-open literals metas) open_some q p)
  IsOutcome-same (open_string i) (not_utf8 j) p q = absurd (valid_no_utf8 bytes j q p.utf8)
  IsOutcome-same (open_string i) (bad_token j) p q = absurd (bad_open j i q p)
  IsOutcome-same (open_string i) too_many p q = absurd (no_many IsOpenString i (IsStuck-open literals metas) q p)
  IsOutcome-same (open_string i) (open_string j) p q = ap open_string (place_same distinct (IsStuck-open literals metas) (IsStuck-open literals metas) p q).3
