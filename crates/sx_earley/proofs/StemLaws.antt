-- Stems, and what tokens show.
use Rattle.std.proofs.Common.{◌≡◌, ◌∙◌, sym, ap, subst, ℕ, zero, suc, ◌+◌, ◌<◌, cond, List, [], ◌∷◌, ◌++◌, length, take, drop, get_or, Option, Some, add-one, arith}
use Rattle.std.specs.Str.{bytes_eq}
use Rattle.std.proofs.lemmas.List.{drop_more}
use Rattle.sx_term.specs.declared.sort.Sort.{Sort}
use Rattle.sx_token.specs.declared.token.Token.{Token}
use Rattle.sx_grammar.specs.Grammar.{Text}
use Rattle.sx_earley.specs.declared.shown.Shown.{Shown}
use Rattle.sx_earley.specs.Tokens.{Stems, stem_sort}
use Rattle.sx_earley.specs.Showing.{TokenShows, AllShow}

-- a stem before all others counts
pub stem_first : (xs : Stems) (i : ℕ) (s : Text × Sort) (get get' : Text → Option Sort) → i < length xs → s ≡ get_or xs i s → ((t : Text) → get t ≡ stem_sort (drop (i + 1) xs) t) →
    ((t : Text) → get' t ≡ cond (bytes_eq s.0 t) (Some s.1) (get t)) → (t : Text) → get' t ≡ stem_sort (drop i xs) t
stem_first xs i s get get' low is same updates t =
    let split : drop i xs ≡ s ∷ drop (i + 1) xs = drop_more xs i s low ∙ ap (λ x. x ∷ drop (i + 1) xs) (sym is) in
    updates t ∙ ap (λ o. cond (bytes_eq s.0 t) (Some s.1) o) (same t) ∙ ap (λ l. stem_sort l t) (sym split)

one_more_shown : (literals : List Text) (stems : Stems) (ts : List Token) (i : ℕ) (t : Token) (s : Shown) (old : List Shown) → i < length ts → t ≡ get_or ts i t → TokenShows literals stems t.mark t.text s →
    AllShow literals stems (take i ts) old → AllShow literals stems (take (suc i) ts) (old ++ s ∷ [])
one_more_shown literals stems [] i t s old low is one all = absurd (omega (arith, low))
one_more_shown literals stems (u ∷ us) zero t s [] low is one all = (subst (λ (x : Token). TokenShows literals stems x.mark x.text s) is one, tt)
one_more_shown literals stems (u ∷ us) zero t s (o ∷ os) low is one all = absurd all
one_more_shown literals stems (u ∷ us) (suc i) t s [] low is one all = absurd all
one_more_shown literals stems (u ∷ us) (suc i) t s (o ∷ os) low is one all = (all.0, one_more_shown literals stems us i t s os (omega (arith, low)) is one all.1)

-- one more token is shown
pub shown_more : (literals : List Text) (stems : Stems) (ts : List Token) (i : ℕ) (t : Token) (s : Shown) (old new : List Shown) → i < length ts → t ≡ get_or ts i t → TokenShows literals stems t.mark t.text s → new ≡ old ++ s ∷ [] →
    AllShow literals stems (take i ts) old → AllShow literals stems (take (i + 1) ts) new
shown_more literals stems ts i t s old new low is one grown all =
    let more : AllShow literals stems (take (suc i) ts) new = subst (AllShow literals stems (take (suc i) ts)) (sym grown) (one_more_shown literals stems ts i t s old low is one all) in
    subst (λ n. AllShow literals stems (take n ts) new) (sym (add-one i)) more
