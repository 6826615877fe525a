-- Rows of names with their counts.
use Rattle.std.proofs.Common.{◌≡◌, ℕ, List, [], ◌∷◌, ◌++◌, Vec, map, take, drop, length}
use Rattle.std.proofs.Common.{ap, sym, refl, ◌∙◌}
use Rattle.std.specs.declared.alloc.Global.{Global}
use Rattle.std.proofs.lemmas.List.{length-map, with_items_is}
use Rattle.sx_audit.specs.declared.row.Row.{Row}
use Rattle.sx_audit.specs.Kinds.{of_counts, counted}
use Rattle.sx_audit.specs.Rows.{row_names, counts_of, row_after}

-- the names stay
names_stay : (rule : List ℕ) (rows : List Row) →
    row_names (map (row_after rule) rows) ≡ row_names rows
names_stay rule [] = refl
names_stay rule (r ∷ rows) = ap (λ (xs : List (List ℕ)). r.name ∷ xs) (names_stay rule rows)

-- each count rises where its name is that of the rule
counts_rise : (rule : List ℕ) (rows : List Row) →
    counts_of (map (row_after rule) rows) ≡ counted rule (row_names rows) (counts_of rows)
counts_rise rule [] = refl
counts_rise rule (r ∷ rows) =
    ap (λ (xs : List ℕ). (row_after rule r).count ∷ xs) (counts_rise rule rows)

-- the rows after a node that each of them is shown, in the place of all rows
pub all_counted : (v : Vec Row Global) (rows : List Row) (rule : List ℕ) →
    rows ≡ map (row_after rule) v.items →
    let all = take v.len (rows ++ drop (length rows) v.items) in
    of_counts (row_names all) (counts_of all)
    ≡ of_counts (row_names v.items) (counted rule (row_names v.items) (counts_of v.items))
all_counted v rows rule h =
    let many = ap length h ∙ length-map v.items (row_after rule) ∙ sym v.ok.0 in
    ap (λ (rs : List Row). of_counts (row_names rs) (counts_of rs)) (with_items_is v rows many ∙ h)
    ∙ ap (λ (ns : List (List ℕ)). of_counts ns (counts_of (map (row_after rule) v.items)))
    (names_stay rule v.items)
    ∙ ap (of_counts (row_names v.items)) (counts_rise rule v.items)
