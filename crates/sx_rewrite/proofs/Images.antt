-- Plain images of lists of terms, and of different lexemes.
use Rattle.std.proofs.Common.{◌≡◌, ℕ, List, [], ◌∷◌, inl, inr, map, refl}
use Rattle.sx_term.specs.Tree.{Tree, node, lexeme, hole}
use Rattle.sx_term.specs.Instances.{instance, StandsAmong}
use Rattle.sx_rules.specs.Rules.{AreDifferentLexemes}
use Rattle.sx_plain.specs.Plain.{Table, image}
use Rattle.sx_plain.proofs.Images.{image-instance}
use Rattle.sx_plain.proofs.Tables.{stands-image}

module _ (table : Table) where
  pub map_image-instance : (s : ℕ → Tree) (ts : List Tree) → map (image table) (map (instance s) ts) ≡ map (instance (λ v. image table (s v))) (map (image table) ts)
  map_image-instance s [] = refl
  map_image-instance s (t ∷ ts) =
      let a = image-instance table s t in
      let b = map_image-instance s ts in cc

  pub lexemes-image : (t u : Tree) → AreDifferentLexemes t u → AreDifferentLexemes (image table t) (image table u)
  lexemes-image (lexeme k x) (lexeme m y) h = h
  lexemes-image (lexeme k x) (node l ts) h = absurd h
  lexemes-image (lexeme k x) (hole v) h = absurd h
  lexemes-image (node l ts) u h = absurd h
  lexemes-image (hole v) u h = absurd h

  pub stands-map_image : (ts : List Tree) (v : ℕ) → StandsAmong v (map (image table) ts) → StandsAmong v ts
  stands-map_image [] v h = h
  stands-map_image (t ∷ ts) v (inl h) = inl (stands-image table t v h)
  stands-map_image (t ∷ ts) v (inr h) = inr (stands-map_image ts v h)
