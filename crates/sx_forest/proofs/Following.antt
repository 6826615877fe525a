-- Readings behind others.
use Rattle.std.proofs.Common.{◌≡◌, ℕ, List, [], ◌∷◌, ◌++◌, refl, ap, ◌∙◌, ◌≤◌, arith}
use Rattle.sx_grammar.specs.Grammar.{Symbol, Grammar, Token}
use Rattle.sx_grammar.specs.Reading as plain
use Rattle.sx_grammar.specs.Reading.{Readings, leaf, done, ◌▸◌, ReadsAll, all_read, by_literal, by_lexeme, by_lexical_variable, by_part, reading_depth, readings_depth}
use Rattle.sx_forest.specs.declared.reading.Reading.{Reading}
use Rattle.sx_forest.specs.Readings.{plain_reading, plain_readings}
use Rattle.sx_forest.specs.Forests.{followed}

-- one more reading in a list
pub one_more_kid : (xs new : List Reading) (x : Reading) → new ≡ xs ++ x ∷ [] → plain_readings new ≡ followed (plain_readings xs) (plain_reading x ▸ done)
one_more_kid xs new x e = ap plain_readings e ∙ pushed xs
  where
    pushed : (xs : List Reading) → plain_readings (xs ++ x ∷ []) ≡ followed (plain_readings xs) (plain_reading x ▸ done)
    pushed [] = refl
    pushed (y ∷ ys) = ap (λ l. plain_reading y ▸ l) (pushed ys)

pub followed_none : (ks : Readings) → followed ks done ≡ ks
followed_none done = refl
followed_none (k ▸ ks) = ap (λ l. k ▸ l) (followed_none ks)

pub followed_twice : (ks ls ms : Readings) → followed (followed ks ls) ms ≡ followed ks (followed ls ms)
followed_twice done ls ms = refl
followed_twice (k ▸ ks) ls ms = ap (λ l. k ▸ l) (followed_twice ks ls ms)

-- a reading is no deeper than a row in which it stands
pub deep_behind : (ks : Readings) (k : plain.Reading) (ls : Readings) → reading_depth k ≤ readings_depth (followed ks (k ▸ ls))
deep_behind done k ls = omega arith
deep_behind (x ▸ ks) k ls = let h = deep_behind ks k ls in omega (arith, h)

abbrev others_in : Readings → Readings
others_in done = done
others_in (k ▸ ks) = ks

abbrev pub first_in : Readings → plain.Reading
first_in done = leaf 0
first_in (k ▸ ks) = k

module _ (g : Grammar) (tokens : List Token) where
  -- readings of two lists of symbols, one after the other
  pub read_on : {xs : List Symbol} {from middle : ℕ} {ks : Readings} (ys : List Symbol) (to : ℕ) (ls : Readings) → ReadsAll g tokens xs from middle ks →
      ReadsAll g tokens ys middle to ls → ReadsAll g tokens (xs ++ ys) from to (followed ks ls)
  read_on ys to ls all_read more = more
  read_on ys to ls (by_literal h rest) more = by_literal h (read_on ys to ls rest more)
  read_on ys to ls (by_lexeme h rest) more = by_lexeme h (read_on ys to ls rest more)
  read_on ys to ls (by_lexical_variable h rest) more = by_lexical_variable h (read_on ys to ls rest more)
  read_on ys to ls (by_part k rest) more = by_part k (read_on ys to ls rest more)

  -- readings behind those of the same symbols are the same where all are
  pub same_behind : {xs : List Symbol} {a b c d : ℕ} {ks ls : Readings} (ms ns : Readings) → ReadsAll g tokens xs a b ks → ReadsAll g tokens xs c d ls →
      followed ks ms ≡ followed ls ns → ms ≡ ns
  same_behind ms ns all_read all_read e = e
  same_behind ms ns (by_literal h rest) (by_literal k more) e = same_behind ms ns rest more e
  same_behind ms ns (by_lexeme h rest) (by_lexeme k more) e = same_behind ms ns rest more (ap others_in e)
  same_behind ms ns (by_lexeme h rest) (by_lexical_variable k more) e = same_behind ms ns rest more (ap others_in e)
  same_behind ms ns (by_lexical_variable h rest) (by_lexeme k more) e = same_behind ms ns rest more (ap others_in e)
  same_behind ms ns (by_lexical_variable h rest) (by_lexical_variable k more) e = same_behind ms ns rest more (ap others_in e)
  same_behind ms ns (by_part h rest) (by_part k more) e = same_behind ms ns rest more (ap others_in e)

-- the one kid is the last
pub last_kid : (rest : List Reading) (x : Reading) (inner : plain.Reading) → plain_readings (rest ++ x ∷ []) ≡ inner ▸ done → plain_readings (rest ++ x ∷ []) ≡ plain_reading x ▸ done
last_kid [] x inner e = refl
last_kid (y ∷ []) x inner e = let clash : plain_reading x ▸ done ≡ done = ap others_in e in cc
last_kid (y ∷ z ∷ rest) x inner e = let clash : plain_reading z ▸ plain_readings (rest ++ x ∷ []) ≡ done = ap others_in e in cc
