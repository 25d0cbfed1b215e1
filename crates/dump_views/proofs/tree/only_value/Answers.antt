use Rattle.std.proofs.Common.{◌≡◌, List, ◌∷◌, ◌++◌, [], Some, None, Option, true, false, cond, take, bytes_eq, append-nil, refl, sym, ap, ◌∙◌, arith}
use Rattle.std.specs.Prelude.{is_some}
use Rattle.std.specs.Option.{option_to_list}
use Rattle.std.proofs.lemmas.List.{take_all}
use Rattle.json.specs.Json.{Json}
use Rattle.json.specs.Value.{value_view, members_view}
use Rattle.dump_views.specs.Import.{values_named, only_one}
use Rattle.dump_views.proofs.Named.{told, only_of, values_more, two_named}
use Rattle.dump_views.proofs.tree.only_value.Goals as goal
use Rattle.dump_views.proofs.tree.only_value.Goals.{then-eq+else-is_some, else-eq}

none_if : {X : Type 0} (found : Option X) → is_some found ≡ false → found ≡ None
none_if None none = refl
none_if (Some x) none = cc none

some_if : {X : Type 0} (found : Option X) → is_some found ≡ true → (x : X) × (found ≡ Some x)
some_if None some = cc some
some_if (Some x) some = (x, refl)

-- a value more, if there was none
put_first : {X : Type 0} (old new : Option X) (x : X) (values : List X) → option_to_list old ≡ values → old ≡ None → new ≡ Some x → option_to_list new ≡ values ++ x ∷ []
put_first old new x values is none some = ap option_to_list some ∙ ap (λ vs. vs ++ x ∷ []) (sym (ap option_to_list none) ∙ is)

pub loop-member-preserved : goal.loop-member-preserved
loop-member-preserved c =
    let name = c.args.name.now in
    let m = c.member-item.result in
    let is = c.deref-member-items.ensures.value in
    let at = rw is at c.member-item.is in
    let inside = rw is at c.loop-member-test.true in
    let values : List Json = values_named name (members_view (take c.loop-member.member-index c.args.members.now.items)) in
    let more = values_more name c.args.members.now.items c.loop-member.member-index m inside at in
    elim c.if-eq.branch [
      | then-eq+else-is_some w ↦
          let same : bytes_eq m.0.now name ≡ true = sym c.eq.ensures ∙ w.if-eq.true in
          let bare : c.loop-member.found ≡ None = none_if c.loop-member.found (sym w.is_some.ensures ∙ w.if-is_some.false) in
          put_first (told c.loop-member.found) (told c.if-eq.found) (value_view m.1) values c.loop-member.invariant (ap told bare) (ap told w.found-is)
          ∙ ap (λ b. values ++ cond b (value_view m.1 ∷ []) []) (sym same) ∙ sym more
      | else-eq w ↦
          let other : bytes_eq m.0.now name ≡ false = sym c.eq.ensures ∙ w.if-eq.false in
          ap option_to_list (ap told w.found-is) ∙ c.loop-member.invariant ∙ sym (append-nil values)
          ∙ ap (λ b. values ++ cond b (value_view m.1 ∷ []) []) (sym other) ∙ sym more
    ]

pub returns-then-is_some : goal.returns-then-is_some
returns-then-is_some c =
    let name = c.args.name.now in
    let m = c.member-item.result in
    let is = c.deref-member-items.ensures.value in
    let at = rw is at c.member-item.is in
    let inside = rw is at c.loop-member-test.true in
    let same : bytes_eq m.0.now name ≡ true = sym c.eq.ensures ∙ c.if-eq.true in
    let some = some_if c.loop-member.found (sym c.is_some.ensures ∙ c.if-is_some.true) in
    two_named name c.args.members.now.items c.loop-member.member-index m inside at (value_view some.0.now) same
    (ap option_to_list (ap told (sym some.1)) ∙ c.loop-member.invariant)

pub returns : goal.returns
returns c =
    let ms = c.args.members.now.items in
    let whole : take c.loop-member.member-index ms ≡ ms = take_all c.loop-member.member-index ms (omega arith) in
    sym (only_of _) ∙ ap only_one (c.loop-member.invariant ∙ ap (λ xs. values_named c.args.name.now (members_view xs)) whole)
