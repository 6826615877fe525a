-- The steps that compare what an interface keeps of another file with what is found.
use Rattle.std.specs.Prelude.{◌≡◌, ◌≢◌, ℕ, List, Result, Ok, Err}
use Rattle.hex.specs.Hex.{encode_lower}
use Rattle.sx_words.specs.declared.closure_defect.ClosureDefect.TheVariants as closure_defect
use Rattle.sx_words.specs.declared.closure_defect.Kept.{Kept}
use Rattle.sx_words.specs.declared.refusal.Defect.TheVariants as defect
use Rattle.sx_steps.specs.declared.stop.Stop.{Stop}
use Rattle.sx_steps.specs.Refusal.{about}

-- the interface in this file keeps a value that is not the one found; both are shown
abbrev pub kept_differs : List ℕ → Kept → (kept found : List ℕ) → Stop
kept_differs file what kept found =
    about file (defect.Closure (closure_defect.Differs what kept found))

-- the text that is kept is the one found, or they differ
abbrev pub KeepsText : List ℕ → Kept → (kept found : List ℕ) → Result (Unit {0}) Stop → Type 0
KeepsText file what kept found (Ok done) = kept ≡ found
KeepsText file what kept found (Err stop) =
    (kept ≢ found) × (stop ≡ kept_differs file what kept found)

-- the digest that is kept is the one found, or they differ; their digits are shown
abbrev pub KeepsDigest : List ℕ → Kept → (kept found : List ℕ) → Result (Unit {0}) Stop → Type 0
KeepsDigest file what kept found (Ok done) = kept ≡ found
KeepsDigest file what kept found (Err stop) =
    (kept ≢ found) × (stop ≡ kept_differs file what (encode_lower kept) (encode_lower found))
