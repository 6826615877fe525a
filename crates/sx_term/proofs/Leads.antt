-- The first part of a term, in the bytes.
use Rattle.std.proofs.Common.{◌≡◌, ℕ, zero, suc, ◌+◌, ◌^◌, ◌-◌, ◌<◌, ◌≤◌, ◌⊎◌, ⊎_elim, Bool, true, false, List, ◌∷◌, ◌++◌, length, length-append, length-drop, take-append-drop, take, drop, get_or, refl, ap, ◌∙◌, sym, subst, decimal, arith}
use Rattle.std.proofs.lemmas.List.{drop_more, drop-drop}
use Rattle.sx_term.specs.declared.lex_kind.LexKind.{LexKind}
use Rattle.sx_term.specs.declared.lex_kind.LexKind.TheVariants.{Id, Num as NumKind, Str}
use Rattle.sx_term.specs.Core.{kind_byte}
use Rattle.sx_term.specs.Reading.{IsStuck, IsLongest, IsNumber, IsNoNumber, Rest, Want}
use Rattle.sx_term.specs.Reading.{TextOfLength, LeadsTo, inside, WantOf}
use Rattle.sx_term.proofs.Deep.{open_deep, hole_deep, lexeme_deep}
use Rattle.sx_term.proofs.Grammar.{open_stuck, open_longest, open_none, hole_stuck, hole_longest, hole_none, lexeme_stuck, lexeme_longest, lexeme_none, colon_none, colon_stuck, colon_longest, text_stuck, text_longest, text_bad, want_none, TextRest, Lexeme, close_stuck, close_longest, blank_stuck, blank_longest, rest_none, rest_ends}

pub byte_at : (bs : List ℕ) (at b : ℕ) → at < length bs → b ≡ get_or bs at 0 → drop at bs ≡ b ∷ drop (at + 1) bs
byte_at bs at b h e = drop_more bs at 0 h ∙ ap (λ x. x ∷ drop (at + 1) bs) (sym e)

pub moved_stuck : (L : List ℕ → Type 0) (s t : List ℕ) (k m : ℕ) → t ≡ s → k ≡ m → IsStuck L s k → IsStuck L t m
moved_stuck L s t k m e f h = subst (IsStuck L t) f (subst (λ (x : List ℕ). IsStuck L x k) (sym e) h)

pub moved_longest : (L : List ℕ → Type 0) (s t : List ℕ) (k m : ℕ) → t ≡ s → k ≡ m → IsLongest L s k → IsLongest L t m
moved_longest L s t k m e f h = subst (IsLongest L t) f (subst (λ (x : List ℕ). IsLongest L x k) (sym e) h)

-- how long the digits are
digits_len : (bs : List ℕ) (at next v : ℕ) → at ≤ next → next ≤ length bs → drop at bs ≡ decimal v ++ drop next bs → length (decimal v) ≡ next - at
digits_len bs at next v h g e = omega (arith, ap length e, length-append (decimal v) (drop next bs), length-drop at bs, length-drop next bs)

pub open_leads : (bs : List ℕ) (at next v b : ℕ) → at < length bs → b ≡ get_or bs at 0 → b ≡ 40 → at + 1 < next → next ≤ length bs → IsNumber (drop (at + 1) bs) 0 (2 ^ 32 - 1) v (drop next bs) → LeadsTo (drop at bs) (drop next bs) (next - at) true
open_leads bs at next v b h e f p q m =
    let s : drop at bs ≡ 40 ∷ drop (at + 1) bs = byte_at bs at b h e ∙ ap (λ x. x ∷ drop (at + 1) bs) f in
    let l = digits_len bs (at + 1) next v (omega arith) q m.spelled in
    record {
      stuck = λ n k r. moved_stuck (Want n) _ _ _ _ s (omega arith) (open_stuck n v k _ _ m r);
      longest = λ n k r. moved_longest (Want n) _ _ _ _ s (omega arith) (open_longest n v k _ _ m r);
      deep = λ n d w. open_deep n d v _ _ m (subst (WantOf n d) s w);
    }

pub hole_leads : (bs : List ℕ) (at next v b : ℕ) → at < length bs → b ≡ get_or bs at 0 → b ≡ 63 → at + 1 < next → next ≤ length bs → IsNumber (drop (at + 1) bs) 0 63 v (drop next bs) → LeadsTo (drop at bs) (drop next bs) (next - at) false
hole_leads bs at next v b h e f p q m =
    let s : drop at bs ≡ 63 ∷ drop (at + 1) bs = byte_at bs at b h e ∙ ap (λ x. x ∷ drop (at + 1) bs) f in
    let l = digits_len bs (at + 1) next v (omega arith) q m.spelled in
    record {
      stuck = λ n k r. moved_stuck (Want n) _ _ _ _ s (omega arith) (hole_stuck n v k _ _ m r);
      longest = λ n k r. moved_longest (Want n) _ _ _ _ s (omega arith) (hole_longest n v k _ _ m r);
      deep = λ n d w. hole_deep n d v _ _ m (subst (WantOf n d) s w);
    }

-- the bytes of a lexeme, and what follows
text_split : (bs : List ℕ) (start v : ℕ) → drop start bs ≡ take v (drop start bs) ++ drop (start + v) bs
text_split bs start v = sym (take-append-drop v (drop start bs)) ∙ ap (λ x. take v (drop start bs) ++ x) (drop-drop v start bs)

pub lexeme_leads : (bs : List ℕ) (at colon v b c : ℕ) (j : LexKind) → at < length bs → b ≡ get_or bs at 0 → b ≡ kind_byte j → at + 1 < colon → colon < length bs → c ≡ get_or bs colon 0 → c ≡ 58 → colon + 1 + v ≤ length bs → IsNumber (drop (at + 1) bs) 1 65535 v (drop colon bs) → TextOfLength v (take v (drop (colon + 1) bs)) → LeadsTo (drop at bs) (drop (colon + 1 + v) bs) (colon + 1 + v - at) false
lexeme_leads bs at colon v b c j h e f p q g i w m t =
    let s : drop at bs ≡ kind_byte j ∷ drop (at + 1) bs = byte_at bs at b h e ∙ ap (λ x. x ∷ drop (at + 1) bs) f in
    let d : drop colon bs ≡ 58 ∷ drop (colon + 1) bs = byte_at bs colon c q g ∙ ap (λ x. x ∷ drop (colon + 1) bs) i in
    let d0 = d in
    let l = digits_len bs (at + 1) colon v (omega arith) (omega arith) m.spelled in
    let tl = t.0 in
    record {
      stuck = λ n k r. moved_stuck (Want n) _ _ _ _ s (omega arith) (lexeme_stuck n v _ j _ _ m (moved_stuck (Lexeme n v) _ _ _ _ d refl (colon_stuck n v _ _ (moved_stuck (TextRest n v) _ _ _ _ (text_split bs (colon + 1) v) refl (text_stuck n v k _ _ t r)))));
      longest = λ n k r. moved_longest (Want n) _ _ _ _ s (omega arith) (lexeme_longest n v _ j _ _ m (moved_longest (Lexeme n v) _ _ _ _ d refl (colon_longest n v _ _ (moved_longest (TextRest n v) _ _ _ _ (text_split bs (colon + 1) v) refl (text_longest n v k _ _ t r)))));
      deep = λ n d w. lexeme_deep n d v j _ _ _ (take v (drop (colon + 1) bs)) _ m d0 (text_split bs (colon + 1) v) t.0 (subst (WantOf n d) s w);
    }

-- where the first part breaks off
pub open_bad : (bs : List ℕ) (at b : ℕ) → at < length bs → b ≡ get_or bs at 0 → b ≡ 40 → IsNoNumber (drop (at + 1) bs) 0 → (n : ℕ) → IsStuck (Want n) (drop at bs) (at + 1 - at)
open_bad bs at b h e f m n = moved_stuck (Want n) _ _ _ _ (byte_at bs at b h e ∙ ap (λ x. x ∷ drop (at + 1) bs) f) (omega arith) (open_none n _ m)

pub hole_bad : (bs : List ℕ) (at b : ℕ) → at < length bs → b ≡ get_or bs at 0 → b ≡ 63 → IsNoNumber (drop (at + 1) bs) 0 → (n : ℕ) → IsStuck (Want n) (drop at bs) (at + 1 - at)
hole_bad bs at b h e f m n = moved_stuck (Want n) _ _ _ _ (byte_at bs at b h e ∙ ap (λ x. x ∷ drop (at + 1) bs) f) (omega arith) (hole_none n _ m)

pub lexeme_bad : (bs : List ℕ) (at b : ℕ) (j : LexKind) → at < length bs → b ≡ get_or bs at 0 → b ≡ kind_byte j → IsNoNumber (drop (at + 1) bs) 1 → (n : ℕ) → IsStuck (Want n) (drop at bs) (at + 1 - at)
lexeme_bad bs at b j h e f m n = moved_stuck (Want n) _ _ _ _ (byte_at bs at b h e ∙ ap (λ x. x ∷ drop (at + 1) bs) f) (omega arith) (lexeme_none n j _ m)

pub colon_bad : (bs : List ℕ) (at colon v b : ℕ) (j : LexKind) → at < length bs → b ≡ get_or bs at 0 → b ≡ kind_byte j → at + 1 < colon → colon ≤ length bs → IsNumber (drop (at + 1) bs) 1 65535 v (drop colon bs) → ((r : List ℕ) → drop colon bs ≡ 58 ∷ r → ⊥) → (n : ℕ) → IsStuck (Want n) (drop at bs) (colon - at)
colon_bad bs at colon v b j h e f p q m g n =
    let l = digits_len bs (at + 1) colon v (omega arith) (omega arith) m.spelled in
    moved_stuck (Want n) _ _ _ _ (byte_at bs at b h e ∙ ap (λ x. x ∷ drop (at + 1) bs) f) (omega arith) (lexeme_stuck n v _ j _ _ m (colon_none n v _ g))

pub text_is_bad : (bs : List ℕ) (at colon v b c place : ℕ) (j : LexKind) → at < length bs → b ≡ get_or bs at 0 → b ≡ kind_byte j → at + 1 < colon → colon < length bs → c ≡ get_or bs colon 0 → c ≡ 58 → IsNumber (drop (at + 1) bs) 1 65535 v (drop colon bs) → colon + 1 ≤ place → IsStuck (TextOfLength v) (drop (colon + 1) bs) (place - (colon + 1)) → (n : ℕ) → IsStuck (Want n) (drop at bs) (place - at)
text_is_bad bs at colon v b c place j h e f p q g i m w t n =
    let d : drop colon bs ≡ 58 ∷ drop (colon + 1) bs = byte_at bs colon c q g ∙ ap (λ x. x ∷ drop (colon + 1) bs) i in
    let l = digits_len bs (at + 1) colon v (omega arith) (omega arith) m.spelled in
    moved_stuck (Want n) _ _ _ _ (byte_at bs at b h e ∙ ap (λ x. x ∷ drop (at + 1) bs) f) (omega arith)
    (lexeme_stuck n v _ j _ _ m (moved_stuck (Lexeme n v) _ _ _ _ d refl (colon_stuck n v _ _ (text_bad n v _ _ t))))

no_heads : (bs : List ℕ) (at b : ℕ) → at < length bs → b ≡ get_or bs at 0 → ((b ≡ 40) ⊎ ((b ≡ 63) ⊎ ((k : LexKind) × (b ≡ kind_byte k))) → ⊥) → (c : ℕ) (r : List ℕ) → drop at bs ≡ c ∷ r → (c ≡ 40) ⊎ ((c ≡ 63) ⊎ ((k : LexKind) × (c ≡ kind_byte k))) → ⊥
no_heads bs at b h e f c r q g =
    let p : c ≡ b = (let x = sym q ∙ byte_at bs at b h e in cc) in
    f (subst (λ (x : ℕ). (x ≡ 40) ⊎ ((x ≡ 63) ⊎ ((k : LexKind) × (x ≡ kind_byte k)))) p g)

kind_is : (k : LexKind) (b : ℕ) → (b ≡ 105 → ⊥) → (b ≡ 110 → ⊥) → (b ≡ 115 → ⊥) → b ≡ kind_byte k → ⊥
kind_is Id b p q r e = p e
kind_is NumKind b p q r e = q e
kind_is Str b p q r e = r e

kinds : (b : ℕ) → (b ≡ 40 → ⊥) → (b ≡ 63 → ⊥) → (b ≡ 105 → ⊥) → (b ≡ 110 → ⊥) → (b ≡ 115 → ⊥) → (b ≡ 40) ⊎ ((b ≡ 63) ⊎ ((k : LexKind) × (b ≡ kind_byte k))) → ⊥
kinds b m n p q r = ⊎_elim m (⊎_elim n (λ w. kind_is w.0 b p q r w.1))

pub other_bad : (bs : List ℕ) (at b : ℕ) → at < length bs → b ≡ get_or bs at 0 → (b ≡ 40 → ⊥) → (b ≡ 63 → ⊥) → (b ≡ 105 → ⊥) → (b ≡ 110 → ⊥) → (b ≡ 115 → ⊥) → (n : ℕ) → IsStuck (Want n) (drop at bs) (at - at)
other_bad bs at b h e m1 m2 m3 m4 m5 n = moved_stuck (Want n) _ _ _ _ refl (omega arith) (want_none n (drop at bs) (no_heads bs at b h e (kinds b m1 m2 m3 m4 m5)))

pub end_bad : (bs : List ℕ) (at : ℕ) → length bs ≤ at → (n : ℕ) → IsStuck (Want n) (drop at bs) (at - at)
end_bad bs at h n = moved_stuck (Want n) _ _ _ _ refl (omega arith) (want_none n (drop at bs) (λ b r e w. let q = ap length e in omega (arith, length-drop at bs)))

pub no_colon_end : (bs : List ℕ) (colon : ℕ) → length bs ≤ colon → (r : List ℕ) → drop colon bs ≡ 58 ∷ r → ⊥
no_colon_end bs colon h r e = let q = ap length e in omega (arith, length-drop colon bs)

pub no_colon : (bs : List ℕ) (colon c : ℕ) → colon < length bs → c ≡ get_or bs colon 0 → (c ≡ 58 → ⊥) → (r : List ℕ) → drop colon bs ≡ 58 ∷ r → ⊥
no_colon bs colon c h e f r q = f (let x = sym (byte_at bs colon c h e) ∙ q in let p : c ≡ 58 = cc in p)

pub lexeme_leads_at : (bs : List ℕ) (at colon v b c end : ℕ) (j : LexKind) → end ≡ colon + 1 + v → at < length bs → b ≡ get_or bs at 0 → b ≡ kind_byte j → at + 1 < colon → colon < length bs → c ≡ get_or bs colon 0 → c ≡ 58 → colon + 1 + v ≤ length bs → IsNumber (drop (at + 1) bs) 1 65535 v (drop colon bs) → TextOfLength v (take v (drop (colon + 1) bs)) → LeadsTo (drop at bs) (drop end bs) (end - at) false
lexeme_leads_at bs at colon v b c end j x h e f p q g i w m t =
    subst (λ (y : ℕ). LeadsTo (drop at bs) (drop y bs) (y - at) false) (sym x) (lexeme_leads bs at colon v b c j h e f p q g i w m t)

-- a close, a blank
pub close_at_stuck : (bs : List ℕ) (at nodes k : ℕ) → at < length bs → 0 < nodes → get_or bs at 0 ≡ 41 → IsStuck (Rest (nodes - 1)) (drop (at + 1) bs) k → IsStuck (Rest nodes) (drop at bs) (k + 1)
close_at_stuck bs at zero k h p e s = absurd (omega arith)
close_at_stuck bs at (suc n) k h p e s =
    moved_stuck (Rest (suc n)) _ _ _ _ (byte_at bs at 41 h (sym e)) refl (close_stuck n k _ (subst (λ (x : ℕ). IsStuck (Rest x) (drop (at + 1) bs) k) (let q : suc n - 1 ≡ n = omega arith in q) s))

pub close_at_longest : (bs : List ℕ) (at nodes k : ℕ) → at < length bs → 0 < nodes → get_or bs at 0 ≡ 41 → IsLongest (Rest (nodes - 1)) (drop (at + 1) bs) k → IsLongest (Rest nodes) (drop at bs) (k + 1)
close_at_longest bs at zero k h p e s = absurd (omega arith)
close_at_longest bs at (suc n) k h p e s =
    moved_longest (Rest (suc n)) _ _ _ _ (byte_at bs at 41 h (sym e)) refl (close_longest n k _ (subst (λ (x : ℕ). IsLongest (Rest x) (drop (at + 1) bs) k) (let q : suc n - 1 ≡ n = omega arith in q) s))

pub blank_at_stuck : (bs : List ℕ) (at nodes k : ℕ) → at < length bs → 0 < nodes → get_or bs at 0 ≡ 32 → IsStuck (Want nodes) (drop (at + 1) bs) k → IsStuck (Rest nodes) (drop at bs) (k + 1)
blank_at_stuck bs at zero k h p e s = absurd (omega arith)
blank_at_stuck bs at (suc n) k h p e s = moved_stuck (Rest (suc n)) _ _ _ _ (byte_at bs at 32 h (sym e)) refl (blank_stuck n k _ s)

pub blank_at_longest : (bs : List ℕ) (at nodes k : ℕ) → at < length bs → 0 < nodes → get_or bs at 0 ≡ 32 → IsLongest (Want nodes) (drop (at + 1) bs) k → IsLongest (Rest nodes) (drop at bs) (k + 1)
blank_at_longest bs at zero k h p e s = absurd (omega arith)
blank_at_longest bs at (suc n) k h p e s = moved_longest (Rest (suc n)) _ _ _ _ (byte_at bs at 32 h (sym e)) refl (blank_longest n k _ s)

pub rest_bad : (bs : List ℕ) (at nodes : ℕ) → at < length bs → 0 < nodes → (get_or bs at 0 ≡ 41 → ⊥) → (get_or bs at 0 ≡ 32 → ⊥) → IsStuck (Rest nodes) (drop at bs) 0
rest_bad bs at zero h p e f = absurd (omega arith)
rest_bad bs at (suc n) h p e f =
    rest_none n (drop at bs) (λ b r q g.
    let x = sym (byte_at bs at (get_or bs at 0) h refl) ∙ q in
    let y : get_or bs at 0 ≡ b = cc in
    ⊎_elim (λ z. e (y ∙ z)) (λ z. f (y ∙ z)) g)

pub rest_end_bad : (bs : List ℕ) (at nodes : ℕ) → length bs ≤ at → 0 < nodes → IsStuck (Rest nodes) (drop at bs) 0
rest_end_bad bs at zero h p = absurd (omega arith)
rest_end_bad bs at (suc n) h p = rest_none n (drop at bs) (λ b r e w. let q = ap length e in omega (arith, length-drop at bs))

-- one step on, from the first place
module _ (bs : List ℕ) (from at next n : ℕ) (opens : Bool) (past : from ≤ at) (goes_on : at < next) (leads : LeadsTo (drop at bs) (drop next bs) (next - at) opens) where
  pub on_stuck : ((k : ℕ) → IsStuck (Want n) (drop at bs) k → IsStuck (Want 0) (drop from bs) (k + (at - from))) → (k : ℕ) → IsStuck (Rest (inside opens n)) (drop next bs) k → IsStuck (Want 0) (drop from bs) (k + (next - from))
  on_stuck inv k s = moved_stuck (Want 0) _ _ _ _ refl (omega arith) (inv (k + (next - at)) (leads.stuck n k s))

  pub on_longest : ((k : ℕ) → IsLongest (Want n) (drop at bs) k → IsLongest (Want 0) (drop from bs) (k + (at - from))) → (k : ℕ) → IsLongest (Rest (inside opens n)) (drop next bs) k → IsLongest (Want 0) (drop from bs) (k + (next - from))
  on_longest inv k s = moved_longest (Want 0) _ _ _ _ refl (omega arith) (inv (k + (next - at)) (leads.longest n k s))

pub one_more_stuck : (n k : ℕ) (s : List ℕ) → IsStuck (Rest (n + 1)) s k → IsStuck (Rest (suc n)) s k
one_more_stuck n k s h = subst (λ (x : ℕ). IsStuck (Rest x) s k) (let e : n + 1 ≡ suc n = omega arith in e) h

pub one_more_longest : (n k : ℕ) (s : List ℕ) → IsLongest (Rest (n + 1)) s k → IsLongest (Rest (suc n)) s k
one_more_longest n k s h = subst (λ (x : ℕ). IsLongest (Rest x) s k) (let e : n + 1 ≡ suc n = omega arith in e) h

module _ (bs : List ℕ) (from at n : ℕ) (past : from ≤ at) (within : at < length bs) (inner : 0 < n) where
  pub close_on_stuck : get_or bs at 0 ≡ 41 → ((k : ℕ) → IsStuck (Rest n) (drop at bs) k → IsStuck (Want 0) (drop from bs) (k + (at - from))) → (k : ℕ) → IsStuck (Rest (n - 1)) (drop (at + 1) bs) k → IsStuck (Want 0) (drop from bs) (k + (at + 1 - from))
  close_on_stuck e inv k s = moved_stuck (Want 0) _ _ _ _ refl (omega arith) (inv (k + 1) (close_at_stuck bs at n k within inner e s))

  pub close_on_longest : get_or bs at 0 ≡ 41 → ((k : ℕ) → IsLongest (Rest n) (drop at bs) k → IsLongest (Want 0) (drop from bs) (k + (at - from))) → (k : ℕ) → IsLongest (Rest (n - 1)) (drop (at + 1) bs) k → IsLongest (Want 0) (drop from bs) (k + (at + 1 - from))
  close_on_longest e inv k s = moved_longest (Want 0) _ _ _ _ refl (omega arith) (inv (k + 1) (close_at_longest bs at n k within inner e s))

  pub blank_on_stuck : get_or bs at 0 ≡ 32 → ((k : ℕ) → IsStuck (Rest n) (drop at bs) k → IsStuck (Want 0) (drop from bs) (k + (at - from))) → (k : ℕ) → IsStuck (Want n) (drop (at + 1) bs) k → IsStuck (Want 0) (drop from bs) (k + (at + 1 - from))
  blank_on_stuck e inv k s = moved_stuck (Want 0) _ _ _ _ refl (omega arith) (inv (k + 1) (blank_at_stuck bs at n k within inner e s))

  pub blank_on_longest : get_or bs at 0 ≡ 32 → ((k : ℕ) → IsLongest (Rest n) (drop at bs) k → IsLongest (Want 0) (drop from bs) (k + (at - from))) → (k : ℕ) → IsLongest (Want n) (drop (at + 1) bs) k → IsLongest (Want 0) (drop from bs) (k + (at + 1 - from))
  blank_on_longest e inv k s = moved_longest (Want 0) _ _ _ _ refl (omega arith) (inv (k + 1) (blank_at_longest bs at n k within inner e s))

pub rest_ends_at : (n : ℕ) (s : List ℕ) → n ≡ 0 → IsLongest (Rest n) s 0
rest_ends_at n s e = subst (λ (x : ℕ). IsLongest (Rest x) s 0) (sym e) (rest_ends s)
