-- The text of a goal's subject is no longer than the core file that states the goal.
use Rattle.std.proofs.Common.{◌≡◌, ℕ, ◌≤◌, List, [], ◌∷◌, ◌++◌, map, length, codes, ap, subst, arith}
use Rattle.std.specs.Prelude.{Ok}
use Rattle.std.specs.List.{flat_map}
use Rattle.std.proofs.lemmas.List.{length-append}
use Rattle.sx_term.specs.Tree.{Tree}
use Rattle.sx_term.specs.Core.{core}
use Rattle.sx_lines.specs.Lines.{lines_from}
use Rattle.sx_term.specs.declared.role.Role.{Role}
use Rattle.sx_term.specs.declared.role.Role.TheVariants.{In, Sub, Out}
use Rattle.sx_core.specs.Problem.{Problem}
use Rattle.sx_core.specs.CoreRead.{IsCoreAnswer}
use Rattle.sx_core.specs.File.{CoreFile, words_text, judgement_text}
use Rattle.sx_core.specs.Table.{Row, row_text, declaration_row, rule_rows, rows_of}
use Rattle.sx_top.specs.CoreTexts.{form_roles, subjects, subject_text, term_lines}
use Rattle.sx_verify.proofs.ShortTexts.{AreShort, lines_short, kept_short}

subjects_short : (roles : List Role) (terms : List Tree) → length (term_lines (subjects roles terms)) ≤ length (words_text (map core terms))
subjects_short [] terms = omega arith
subjects_short (Out ∷ roles) terms = subjects_short roles terms
subjects_short (In ∷ roles) [] = omega arith
subjects_short (In ∷ roles) (t ∷ ts) =
    let h = subjects_short roles ts in
    let e = length-append (core t) (words_text (map core ts)) in
    omega arith
subjects_short (Sub ∷ roles) [] = omega arith
subjects_short (Sub ∷ roles) (t ∷ ts) =
    let h = subjects_short roles ts in
    let e = length-append (core t) (words_text (map core ts)) in
    let f = length-append (core t) (10 ∷ term_lines (subjects roles ts)) in
    omega arith

short_behind : (n : ℕ) (front rest : List Row) → AreShort n (map row_text (front ++ rest)) → AreShort n (map row_text rest)
short_behind n [] rest h = h
short_behind n (r ∷ front) rest h = short_behind n front rest h.1

-- the goal's line is among the lines
goal_short : (n : ℕ) (file : CoreFile) → AreShort n (map row_text (rows_of file)) → length (codes "goal" ++ judgement_text file.goal) ≤ n
goal_short n file h = (short_behind n (map declaration_row file.declarations ++ flat_map rule_rows file.rules) _ h.1).0

pub subject_short : (bytes : List ℕ) (p : Problem) → IsCoreAnswer bytes (Ok p) → length (subject_text p.forms p.goal) ≤ length bytes
subject_short bytes p answer =
    let stated = answer.1 in
    let file = stated.0 in
    let goal = stated.2.says.goal in
    let lines = subst (λ (l : List (List ℕ)). AreShort (length bytes) l) stated.1 (kept_short (length bytes) (lines_from 1 bytes) (lines_short 1 bytes)) in
    let line = goal_short (length bytes) file lines in
    let terms = words_text (map core file.goal.terms) in
    let short = subjects_short (form_roles p.forms p.goal.form) p.goal.terms in
    let same : length (words_text (map core p.goal.terms)) ≡ length terms = ap (λ (ts : List Tree). length (words_text (map core ts))) goal.terms in
    let e = length-append (codes "goal") (32 ∷ file.goal.form ++ terms) in
    let f = length-append file.goal.form terms in
    omega arith
