use Rattle.std.proofs.Common.{◌≡◌, ◌+◌, ◌++◌, ◌∷◌, [], ◌∙◌, ℕ, List, length, refl, sym, ap, subst, arith}
use Rattle.std.proofs.lemmas.List.{length_push}
use Rattle.sx_slots.specs.Slots.{AreLinked}
use Rattle.sx_slots.specs.declared.slots.Slots.TheInside.{Inside}
use Rattle.sx_slots.proofs.Linking.{linked_is, linked_push, table_is, table_grown, table_push, roomy_grown, written_back, IsRoomy}
use Rattle.sx_slots.proofs.slots.Slots.push.Goals.{then-number-len+in_ok-grow, else-number-len, After-reserve}
use Rattle.sx_slots.proofs.slots.Slots.push.Goals as goal

-- the parts before the number is put in, with a slot for it
abbrev IsReady : List ℕ → Inside → Type 0
IsReady told s = IsRoomy told s.hashes.items s.links.items s.lasts.items

pub grow-requires-clause-few : goal.grow-requires-clause-few
grow-requires-clause-few c = c.self.invariant.few

pub grow-requires-clause-links : goal.grow-requires-clause-links
grow-requires-clause-links c = ap length c.as_mut_slice.ensures.value ∙ c.self.invariant.many ∙ sym (ap length c.as_slice.ensures.value)

pub grow-requires-clause-full : goal.grow-requires-clause-full
grow-requires-clause-full c =
    let a = c.len-number.ensures in
    let b = c.len.ensures in
    let d = c.self.inside.hashes.ok in
    let e = c.self.inside.lasts.ok in
    let t = c.if-number-len.true in
    let v = ap length c.as_slice.ensures.value in
    omega arith

pub grow-requires-clause-linked : goal.grow-requires-clause-linked
grow-requires-clause-linked c =
    let v = c.as_slice.ensures.value in
    linked_is _ _ _ c.self.inside.hashes.items _ c.self.inside.links.items _ _ _ _ refl v c.as_mut_slice.ensures.value refl (ap length v) c.self.invariant.linked

pub invariant_of-self : goal.invariant_of-self
invariant_of-self c =
    let u = c.grow.ensures in
    table_grown _ _ _ _ _ _ _ _ c.self.invariant c.as_slice.ensures.value c.as_mut_slice.ensures.value u.links (let k = c.self.inside.links.ok in omega arith) u.grows u.few u.linked

-- what is ready before a place is kept for the number
module _ (c : After-reserve) where
  ready : IsReady c.self.inside.hashes.items c.if-number-len.self-inside
  ready = elim c.if-number-len.branch [
    | then-number-len+in_ok-grow w ↦ subst (λ (s : Inside). IsReady c.self.inside.hashes.items s) (sym w.self-inside-is)
        (roomy_grown _ _ _ _ _ _ _ _ c.self.invariant w.as_slice.ensures.value w.as_mut_slice.ensures.value w.grow.ensures.links (let k = c.self.inside.links.ok in omega arith)
        w.grow.ensures.grows w.grow.ensures.few w.grow.ensures.linked w.in_ok-grow.ensures.room)
    | else-number-len w ↦ subst (λ (s : Inside). IsReady c.self.inside.hashes.items s) (sym w.self-inside-is) (record {
      same = refl;
      table = c.self.invariant;
      room = (let t = w.if-number-len.false in let r = c.self.invariant.room in let a = c.len-number.ensures in let b = c.len.ensures in
          let d = c.self.inside.hashes.ok in let e = c.self.inside.lasts.ok in omega arith);
    })
  ]

  number_is : c.len-number.result ≡ length c.if-number-len.self-inside.hashes.items
  number_is = (let a = c.len-number.ensures in let k = c.self.inside.hashes.ok in let e = ap length ready.same in omega arith)

pub invariant_of-self-in_err-reserve : goal.invariant_of-self-in_err-reserve
invariant_of-self-in_err-reserve c =
    table_is _ _ _ _ _ _ refl c.in_err-reserve.ensures.items refl (ready (goal.at.invariant_of-self-in_err-reserve c).After-reserve).table

pub invariant_of-self-in_err-reserve-2 : goal.invariant_of-self-in_err-reserve-2
invariant_of-self-in_err-reserve-2 c =
    table_is _ _ _ _ _ _ c.in_err-reserve-2.ensures.items c.in_ok-reserve.ensures.items refl (ready (goal.at.invariant_of-self-in_err-reserve-2 c).After-reserve).table

-- what is linked
module _ (c : goal.After-as_mut_slice-3) where
  hashes_are : c.as_slice-2.result.now ≡ c.if-number-len.self-inside.hashes.items ++ c.args.hash ∷ []
  hashes_are = c.as_slice-2.ensures.value ∙ c.push_reserved.ensures.items ∙ ap (λ (xs : List ℕ). xs ++ c.args.hash ∷ []) c.in_ok-reserve-2.ensures.items

  links_are : c.as_mut_slice-2.result.now ≡ c.if-number-len.self-inside.links.items ++ 0 ∷ []
  links_are = c.as_mut_slice-2.ensures.value ∙ c.push_reserved-2.ensures.items ∙ ap (λ (xs : List ℕ). xs ++ 0 ∷ []) c.in_ok-reserve.ensures.items

  many_hashes : length c.as_slice-2.result.now ≡ length c.if-number-len.self-inside.hashes.items + 1
  many_hashes = (let e = ap length hashes_are in let l = length_push c.if-number-len.self-inside.hashes.items c.args.hash in omega arith)

pub link-requires-clause-number : goal.link-requires-clause-number
link-requires-clause-number c = (let m = many_hashes c in let n = number_is (goal.at.link-requires-clause-number c).After-reserve in omega arith)

pub link-requires-clause-room : goal.link-requires-clause-room
link-requires-clause-room c = (let m = many_hashes c in let r = (ready (goal.at.link-requires-clause-room c).After-reserve).room in let e = ap length c.as_mut_slice-3.ensures.value in omega arith)

pub link-requires-clause-few : goal.link-requires-clause-few
link-requires-clause-few c = (let f = (ready (goal.at.link-requires-clause-few c).After-reserve).table.few in let e = ap length c.as_mut_slice-3.ensures.value in omega arith)

pub link-requires-clause-links : goal.link-requires-clause-links
link-requires-clause-links c =
    let m = many_hashes c in
    let e = ap length (links_are c) in
    let l = length_push c.if-number-len.self-inside.links.items 0 in
    let t = (ready (goal.at.link-requires-clause-links c).After-reserve).table.many in
    omega arith

pub link-requires-clause-linked : goal.link-requires-clause-linked
link-requires-clause-linked c =
    let e = c.as_mut_slice-3.ensures.value in
    let s = c.if-number-len.self-inside in
    let t = (ready (goal.at.link-requires-clause-linked c).After-reserve).table in
    linked_is _ _ _ _ _ _ _ _ _ _ (ap length e) (hashes_are c) (links_are c) e (number_is (goal.at.link-requires-clause-linked c).After-reserve) (linked_push _ s.hashes.items s.links.items s.lasts.items c.args.hash t.many t.linked)

pub invariant_of-self-2 : goal.invariant_of-self-2
invariant_of-self-2 c =
    let w = (goal.at.invariant_of-self-2 c).After-reserve in
    let r = ready w in
    let s = c.if-number-len.self-inside in
    let u = c.link.ensures in
    let hashes : c.push_reserved.new.self.items ≡ s.hashes.items ++ c.args.hash ∷ [] = c.push_reserved.ensures.items ∙ ap (λ (xs : List ℕ). xs ++ c.args.hash ∷ []) c.in_ok-reserve-2.ensures.items in
    let links : c.push_reserved-2.new.self.items ≡ s.links.items ++ 0 ∷ [] = c.push_reserved-2.ensures.items ∙ ap (λ (xs : List ℕ). xs ++ 0 ∷ []) c.in_ok-reserve.ensures.items in
    let many : length c.link.new.links ≡ length c.push_reserved-2.new.self.items = u.links ∙ ap length c.as_mut_slice-2.ensures.value in
    let lasts : length c.link.new.lasts ≡ length s.lasts.items = u.lasts ∙ ap length c.as_mut_slice-3.ensures.value in
    let number : length s.hashes.items + 1 ≡ c.len-number.result + 1 = (let e = number_is w in omega arith) in
    let h : AreLinked (length c.link.new.lasts) (s.hashes.items ++ c.args.hash ∷ []) c.link.new.links c.link.new.lasts (length s.hashes.items + 1) =
    linked_is _ _ _ _ _ _ _ _ _ _ u.lasts (sym (c.as_slice-2.ensures.value ∙ hashes)) refl refl number u.linked in
    table_is _ _ _ _ _ _ hashes (written_back _ _ _ many (let k = c.push_reserved-2.new.self.ok in omega arith)) (written_back _ _ _ lasts (let k = s.lasts.ok in omega arith))
    (table_push s.hashes.items c.link.new.links c.link.new.lasts c.args.hash (let l = ap length links in let m = length_push s.links.items 0 in let n = r.table.many in omega arith)
    (let a = r.room in omega arith) (let f = r.table.few in omega arith) h)

pub returns-clause-ok : goal.returns-clause-ok
returns-clause-ok c =
    let same : c.if-number-len.self-inside.hashes.items ≡ c.self.inside.hashes.items = elim c.if-number-len.branch [
      | then-number-len+in_ok-grow w ↦ ap (λ (s : Inside). s.hashes.items) w.self-inside-is
      | else-number-len w ↦ ap (λ (s : Inside). s.hashes.items) w.self-inside-is
    ] in
    c.push_reserved.ensures.items ∙ ap (λ (xs : List ℕ). xs ++ c.args.hash ∷ []) (c.in_ok-reserve-2.ensures.items ∙ same ∙ c.self.view_is)
