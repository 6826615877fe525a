use Rattle.std.proofs.Common.{◌≡◌, ℕ, List, ◌∙◌}
use Rattle.sx_outside.specs.Files.{Files, put}
use Rattle.sx_sample.proofs.shelf.sample_shelf.Goals as goal

-- one more file
put_more : (old new files : Files) (name other bytes held : List ℕ) → new ≡ put old name bytes →
    old ≡ files → name ≡ other → bytes ≡ held → new ≡ put files other held
put_more old new files name other bytes held is same named holds =
    is ∙ (λ i. put (same i) (named i) (holds i))

pub returns : goal.returns
returns c =
    let one = put_more _ _ _ _ _ _ _ c.in_ok-put.ensures.ok c.new-shelf.ensures
    c.in_ok-of_str.ensures c.in_ok-language.ensures.items in
    let two = put_more _ _ _ _ _ _ _ c.in_ok-put-2.ensures.ok one c.in_ok-of_str-2.ensures
    c.in_ok-extension.ensures.items in
    put_more _ _ _ _ _ _ _ c.in_ok-put-3.ensures.ok two c.in_ok-of_str-3.ensures
    c.in_ok-module.ensures
