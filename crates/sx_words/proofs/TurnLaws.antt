-- One word more.
use Rattle.std.proofs.Common.{◌≡◌, ℕ, ◌+◌, ◌<◌, ◌≤◌, true, false, List, ◌∷◌, length, get_or, drop, Some, None, Result, Err, refl, sym, ap, ◌∙◌}
use Rattle.std.proofs.lemmas.List.{at_drop_more, at_drop_all}
use Rattle.sx_words.specs.declared.verb.Verb.{Verb}
use Rattle.sx_words.specs.Commands.{Given, Settings, Meant, with_option}
use Rattle.sx_words.specs.Reading.{is_option, next_option, last_word, after_verb}

module _ (verb : Verb) (place : ℕ) (s : Settings) (words : List (List ℕ)) (i : ℕ) (total : Result Meant ℕ) (so_far : after_verb verb place s (drop i words) ≡ total) where
  module _ (word : List ℕ) (lt : i < length words) (at : word ≡ get_or words i word) where
    turn : after_verb verb place s (drop i words) ≡ after_verb verb place s (word ∷ drop (i + 1) words)
    turn = at_drop_more (after_verb verb place s) words i word lt ∙ ap (λ (w : List ℕ). after_verb verb place s (w ∷ drop (i + 1) words)) (sym at)

    pub is_last : is_option word ≡ false → last_word verb place s word (drop (i + 1) words) ≡ total
    unfolding after_verb
    is_last test =
        let step : after_verb verb place s (word ∷ drop (i + 1) words) ≡ last_word verb place s word (drop (i + 1) words) = rw test refl in
        sym step ∙ sym turn ∙ so_far

    pub is_misfit : is_option word ≡ true → next_option verb s word ≡ None → total ≡ Err place
    unfolding after_verb
    is_misfit test none =
        let step : after_verb verb place s (word ∷ drop (i + 1) words) ≡ Err place = rw (test, none) refl in
        sym so_far ∙ turn ∙ step

    pub is_one_more : (option : Given) → is_option word ≡ true → next_option verb s word ≡ Some option → after_verb verb (place + 1) (with_option place s option) (drop (i + 1) words) ≡ total
    unfolding after_verb
    is_one_more option test is =
        let step : after_verb verb place s (word ∷ drop (i + 1) words) ≡ after_verb verb (place + 1) (with_option place s option) (drop (i + 1) words) = rw (test, is) refl in
        sym step ∙ sym turn ∙ so_far

  pub is_missing : length words ≤ i → total ≡ Err place
  unfolding after_verb
  is_missing le = sym so_far ∙ at_drop_all (after_verb verb place s) words i le
