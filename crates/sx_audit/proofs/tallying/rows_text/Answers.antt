use Rattle.std.proofs.Common.{◌≡◌, ℕ, ◌+◌, ◌<◌, List, ◌∷◌, ◌++◌, length, drop, get_or, sym, ap, ◌∙◌, append_assoc}
use Rattle.std.specs.Fmt.{decimal}
use Rattle.std.proofs.lemmas.List.{drop_more}
use Rattle.sx_audit.specs.declared.row.Row.{Row}
use Rattle.sx_audit.specs.Kinds.{after_blank, counts_text}
use Rattle.sx_audit.specs.Rows.{row_names, counts_of}
use Rattle.sx_audit.proofs.tallying.rows_text.Goals as goal

row_more : (rows : List Row) (i : ℕ) (row : Row) (made named more front : List ℕ) → i < length rows → row ≡ get_or rows i row →
    named ≡ made ++ after_blank row.name → more ≡ named ++ after_blank (decimal row.count) →
    made ++ counts_text (row_names (drop i rows)) (counts_of (drop i rows)) ≡ front →
    more ++ counts_text (row_names (drop (i + 1) rows)) (counts_of (drop (i + 1) rows)) ≡ front
row_more rows i row made named more front l e n m h =
    let name = after_blank row.name in
    let count = after_blank (decimal row.count) in
    let rest = counts_text (row_names (drop (i + 1) rows)) (counts_of (drop (i + 1) rows)) in
    let here : drop i rows ≡ row ∷ drop (i + 1) rows = drop_more rows i row l ∙ ap (λ (r : Row). r ∷ drop (i + 1) rows) (sym e) in
    ap (λ (x : List ℕ). x ++ rest) (m ∙ ap (λ (x : List ℕ). x ++ count) n)
    ∙ append_assoc (made ++ name) count rest
    ∙ append_assoc made name (count ++ rest)
    ∙ ap (λ (x : List ℕ). made ++ x) (sym (append_assoc name count rest))
    ∙ ap (λ (rs : List Row). made ++ counts_text (row_names rs) (counts_of rs)) (sym here)
    ∙ h

pub loop-row-preserved : goal.loop-row-preserved
loop-row-preserved c =
    row_more c.args.rows.now c.loop-row.row-index c.row-item.result c.loop-row.made.items c.put_word.new.into.items c.put_number.new.into.items _ c.loop-row-test.true c.row-item.is
    (c.in_ok-put_word.ensures ∙ ap (λ (w : List ℕ). c.loop-row.made.items ++ after_blank w) c.bytes.ensures.value) c.in_ok-put_number.ensures c.loop-row.invariant
