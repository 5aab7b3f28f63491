use Rattle.std.proofs.Common.{◌≡◌, ap, ◌∙◌, subst, List, ℤ, pos, length, map, ◌-◌, ◌^◌, ◌+ℤ◌, FitsSigned, to_z, of_z, arith}
use Rattle.std.specs.Prelude.{replicate}
use Rattle.std.specs.Int.{w64, int_wrap}
use Rattle.std.specs.Simd.Lanes.{zip2}
use Rattle.std.proofs.lemmas.Int.{to_z-of_z}
use Rattle.std.proofs.lemmas.Nat.{pow_below}
use Rattle.std.proofs.lemmas.Simd.{zip2_splat}
use Rattle.fx_rational.specs.Rational.{floor_div}
use Rattle.fx_lanes.proofs.Shifts as shifts
use Rattle.fx_lanes.proofs.vectors.Numbers64.nearest_with_room.Goals as goal

pub returns : goal.returns
returns c =
    let v = c.args.self in let h = pos (2 ^ (c.args.s - 1)) in
    let f : FitsSigned w64 h =
    record { sfits = pow_below (c.args.s - 1) 63 (let l = c.requires.high in omega arith) } in
    let half : c.all.result ≡ replicate 16 h = c.all.ensures
    ∙ ap (replicate 16) (ap (λ x. to_z w64 (of_z w64 x)) c.short_two_to.ensures.value ∙ to_z-of_z w64 h f) in
    let many : length v ≡ 16 = subst (λ (xs : List ℤ). length xs ≡ 16) c.self.view_is c.self.invariant.many in
    c.lowered.ensures.lowered ∙ ap (map (λ x. floor_div x (2 ^ c.args.s)))
    (c.plus.ensures ∙ ap (zip2 (λ x y. int_wrap w64 (x +ℤ y)) v) half
    ∙ zip2_splat (λ x y. int_wrap w64 (x +ℤ y)) v 16 h many)
    ∙ shifts.with_half_is c.args.s c.requires.low v c.requires.room
