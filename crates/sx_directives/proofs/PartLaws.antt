-- The parts of a line.
use Rattle.std.proofs.Common.{◌≡◌, ◌≢◌, ℕ, zero, suc, ◌<◌, ◌≤◌, Bool, true, false, List, [], ◌∷◌, ◌++◌, length, get_or, take, drop, refl, sym, ap, subst, ◌∙◌, arith}
use Rattle.std.proofs.lemmas.List.{drop_more, drop_all, take-append-drop}
use Rattle.sx_lines.specs.Bytes.{is_blank}
use Rattle.sx_directives.specs.Parts.{parts_of, begun_part, NoBlank, AllBlank, Stops, NoBlankFirst}
use Rattle.sx_directives.specs.Parts.{IsBlankFront, IsPartEnd}

all_blank-take : (text : List ℕ) (n : ℕ) → ((k : ℕ) → k < n → is_blank (get_or text k 0) ≡ true) → n ≤ length text → AllBlank (take n text)
all_blank-take text zero h le = tt
all_blank-take [] (suc n) h le = absurd (omega arith)
all_blank-take (b ∷ text) (suc n) h le = (h 0 (omega arith), all_blank-take text n (λ k lt. h (suc k) (omega arith)) (omega arith))

no_blank-take : (text : List ℕ) (n : ℕ) → ((k : ℕ) → k < n → is_blank (get_or text k 0) ≡ false) → n ≤ length text → NoBlank (take n text)
no_blank-take text zero h le = tt
no_blank-take [] (suc n) h le = absurd (omega arith)
no_blank-take (b ∷ text) (suc n) h le = (h 0 (omega arith), no_blank-take text n (λ k lt. h (suc k) (omega arith)) (omega arith))

pub blank_front : (text : List ℕ) (at : ℕ) → ((k : ℕ) → k < at → is_blank (get_or text k 0) ≡ true) → at < length text → is_blank (get_or text at 0) ≡ false → IsBlankFront text at
blank_front text at h lt e = record {
  inside = omega arith;
  blanks = all_blank-take text at h (omega arith);
  starts = subst NoBlankFirst (sym (drop_more text at 0 lt)) e;
}

pub blank_all : (text : List ℕ) → ((k : ℕ) → k < length text → is_blank (get_or text k 0) ≡ true) → IsBlankFront text (length text)
blank_all text h = record {
  inside = omega arith;
  blanks = all_blank-take text (length text) h (omega arith);
  starts = subst NoBlankFirst (sym (drop_all (length text) text (omega arith))) tt;
}

pub part_end : (text : List ℕ) (at : ℕ) → ((k : ℕ) → k < at → is_blank (get_or text k 0) ≡ false) → at < length text → is_blank (get_or text at 0) ≡ true → IsPartEnd text at
part_end text at h lt e = record {
  inside = omega arith;
  part = no_blank-take text at h (omega arith);
  stops = subst Stops (sym (drop_more text at 0 lt)) e;
}

pub part_whole : (text : List ℕ) → ((k : ℕ) → k < length text → is_blank (get_or text k 0) ≡ false) → IsPartEnd text (length text)
part_whole text h = record {
  inside = omega arith;
  part = no_blank-take text (length text) h (omega arith);
  stops = subst Stops (sym (drop_all (length text) text (omega arith))) tt;
}

-- blanks at the front are no part
pub parts_blank : (blanks rest : List ℕ) → AllBlank blanks → parts_of (blanks ++ rest) ≡ parts_of rest
unfolding parts_of
parts_blank [] rest h = refl
parts_blank (b ∷ blanks) rest h = rw (h.0) (parts_blank blanks rest h.1)

-- one more byte of a part
more_of : (b : ℕ) (part rest : List ℕ) (parts : List (List ℕ)) → NoBlank part → part ≢ [] → begun_part b (part ++ rest) (part ∷ parts) ≡ (b ∷ part) ∷ parts
more_of b [] rest parts h n = absurd (n refl)
more_of b (c ∷ part) rest parts h n = rw (h.0) refl

last_of : (b : ℕ) (rest : List ℕ) (parts : List (List ℕ)) → Stops rest → begun_part b rest parts ≡ (b ∷ []) ∷ parts
last_of b [] parts s = refl
last_of b (c ∷ rest) parts s = rw s refl

not_nil : (b : ℕ) (part : List ℕ) → b ∷ part ≢ []
not_nil b part e = cc

-- a part at the front
pub parts_part : (b : ℕ) (part rest : List ℕ) → NoBlank (b ∷ part) → Stops rest → parts_of (b ∷ part ++ rest) ≡ (b ∷ part) ∷ parts_of rest
unfolding parts_of
parts_part b [] rest h s = rw (h.0) (last_of b rest (parts_of rest) s)
parts_part b (c ∷ part) rest h s =
    let e : parts_of (c ∷ part ++ rest) ≡ (c ∷ part) ∷ parts_of rest = parts_part c part rest h.1 s in
    rw (h.0, e) (more_of b (c ∷ part) rest (parts_of rest) h.1 (not_nil c part))

clash : (test : Bool) → test ≡ false → test ≡ true → ⊥
clash true e f = cc
clash false e f = cc

-- a text without blanks at its front that is cut where its first part ends
cut_at : (rest part more : List ℕ) → rest ≡ part ++ more → NoBlank part → Stops more → NoBlankFirst rest → rest ≢ [] → parts_of rest ≡ part ∷ parts_of more
cut_at rest [] [] e h s t n = absurd (n e)
cut_at rest [] (c ∷ more) e h s t n = absurd (clash (is_blank c) (subst NoBlankFirst e t) s)
cut_at rest (b ∷ part) more e h s t n = ap parts_of e ∙ parts_part b part more h s

pub first_cut : (text rest part more : List ℕ) (at end : ℕ) → IsBlankFront text at → rest ≡ drop at text → IsPartEnd rest end → rest ≢ []
    → part ≡ take end rest → more ≡ drop end rest → parts_of text ≡ part ∷ parts_of more
first_cut text rest part more at end f e p n g k =
    let whole : rest ≡ part ++ more = sym (take-append-drop end rest) ∙ ap (λ (x : List ℕ). x ++ drop end rest) (sym g) ∙ ap (λ (x : List ℕ). part ++ x) (sym k) in
    ap parts_of (sym (take-append-drop at text)) ∙ parts_blank (take at text) (drop at text) f.blanks ∙ ap parts_of (sym e)
    ∙ cut_at rest part more whole (subst NoBlank (sym g) p.part) (subst Stops (sym k) p.stops) (subst NoBlankFirst (sym e) f.starts) n

pub no_part : (text rest : List ℕ) (at : ℕ) → IsBlankFront text at → rest ≡ drop at text → rest ≡ [] → parts_of text ≡ []
unfolding parts_of
no_part text rest at f e n =
    ap parts_of (sym (take-append-drop at text)) ∙ parts_blank (take at text) (drop at text) f.blanks ∙ ap parts_of (sym e ∙ n)
