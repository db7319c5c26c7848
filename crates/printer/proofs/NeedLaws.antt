-- A reading and what follows it, for each of the readers: the answer is shown as the code's places have it. Assumes nothing.
use Rattle.std.specs.Prelude.{Option, Some, None}
use Rattle.pieces.specs.declared.mode.Mode.{Mode}
use Prim.Native.Nat.{ℕ}
use mathlib.Core.Path.{◌≡◌, ap, sym, ◌∙◌}
use mathlib.Core.Bool.{false}
use mathlib.Core.List.{List}
use Rattle.parser.specs.declared.names.Name.{Name}
use Rattle.nibbles.specs.Uint.{hex_value}
use Rattle.nibbles.specs.declared.uint.Hex.{Hex}
use Rattle.nibbles.specs.declared.uint.Hex.TheVariants.{Small, Big}
use Rattle.printer.specs.Lay.{State}
use Rattle.printer.specs.Says.{U, Says, broken, need}
use Rattle.printer.specs.Readings.{named_at, literal_at}
use Rattle.printer.specs.Lay.{World, world, lay, moved_to}
use Rattle.printer.specs.Model.{Integer, small, large, got_from, got_named, got_hex, got_literal}
use Rattle.printer.proofs.ArmLaws.{arm-got, arm-lost}

-- o and st before the reading, mv the state that the code goes on with, w what it comes to
module _ (m : Option Mode) (o : List ℕ) (st mv : State) (w : World) where
  module _ {A : Type 0} (r : ℕ → Option (A × ℕ)) (f : A → Says U) (x : Option (A × ℕ)) where
    pub read-next : (v : A) (q : ℕ) → st.full ≡ false → st.error ≡ 0 → x ≡ r st.place → x ≡ Some (v, q) → mv ≡ moved_to q st → w ≡ lay m (f v) (world o mv) → w ≡ lay m (need (λ i. got_from (r i)) tt f) (world o st)
    read-next v q u e h k l p = arm-got m (λ i. got_from (r i)) f v q o st mv w u e (ap got_from (sym h ∙ k)) l p

    pub read-fails : st.error ≡ 0 → x ≡ r st.place → x ≡ None → mv ≡ st → w ≡ lay m broken (world o mv) → w ≡ lay m (need (λ i. got_from (r i)) tt f) (world o st)
    read-fails e h k l p = arm-lost m (λ i. got_from (r i)) f o st mv w e (ap got_from (sym h ∙ k)) l p

  module _ (s : List ℕ) where
    module _ (f : ℕ × Name → Says U) (x : Option (ℕ × Name)) where
      pub named-next : (d : ℕ) (n : Name) → st.full ≡ false → st.error ≡ 0 → x ≡ named_at s st.place → x ≡ Some (d, n) → mv ≡ moved_to n.end st → w ≡ lay m (f (d, n)) (world o mv) → w ≡ lay m (need (λ i. got_named (named_at s i)) tt f) (world o st)
      named-next d n u e h k l p = arm-got m (λ i. got_named (named_at s i)) f (d, n) n.end o st mv w u e (ap got_named (sym h ∙ k)) l p

      pub named-fails : st.error ≡ 0 → x ≡ named_at s st.place → x ≡ None → mv ≡ st → w ≡ lay m broken (world o mv) → w ≡ lay m (need (λ i. got_named (named_at s i)) tt f) (world o st)
      named-fails e h k l p = arm-lost m (λ i. got_named (named_at s i)) f o st mv w e (ap got_named (sym h ∙ k)) l p

    module _ (f : Integer → Says U) (x : Option (Hex × ℕ)) where
      pub hex-small : (v q : ℕ) → st.full ≡ false → st.error ≡ 0 → x ≡ hex_value s st.place → x ≡ Some (Small v, q) → mv ≡ moved_to q st → w ≡ lay m (f (small v)) (world o mv) → w ≡ lay m (need (λ i. got_hex i (hex_value s i)) tt f) (world o st)
      hex-small v q u e h k l p = arm-got m (λ i. got_hex i (hex_value s i)) f (small v) q o st mv w u e (ap (got_hex st.place) (sym h ∙ k)) l p

      pub hex-large : (v q : ℕ) → st.full ≡ false → st.error ≡ 0 → x ≡ hex_value s st.place → x ≡ Some (Big v, q) → mv ≡ moved_to q st → w ≡ lay m (f (large st.place v)) (world o mv) → w ≡ lay m (need (λ i. got_hex i (hex_value s i)) tt f) (world o st)
      hex-large v q u e h k l p = arm-got m (λ i. got_hex i (hex_value s i)) f (large st.place v) q o st mv w u e (ap (got_hex st.place) (sym h ∙ k)) l p

      pub hex-fails : st.error ≡ 0 → x ≡ hex_value s st.place → x ≡ None → mv ≡ st → w ≡ lay m broken (world o mv) → w ≡ lay m (need (λ i. got_hex i (hex_value s i)) tt f) (world o st)
      hex-fails e h k l p = arm-lost m (λ i. got_hex i (hex_value s i)) f o st mv w e (ap (got_hex st.place) (sym h ∙ k)) l p

    module _ (f : ℕ × ℕ → Says U) (x : Option (ℕ × ℕ)) where
      pub literal-next : (v q : ℕ) → st.full ≡ false → st.error ≡ 0 → x ≡ literal_at s st.place → x ≡ Some (v, q) → mv ≡ moved_to q st → w ≡ lay m (f (st.place, v)) (world o mv) → w ≡ lay m (need (λ i. got_literal i (literal_at s i)) tt f) (world o st)
      literal-next v q u e h k l p = arm-got m (λ i. got_literal i (literal_at s i)) f (st.place, v) q o st mv w u e (ap (got_literal st.place) (sym h ∙ k)) l p

      pub literal-fails : st.error ≡ 0 → x ≡ literal_at s st.place → x ≡ None → mv ≡ st → w ≡ lay m broken (world o mv) → w ≡ lay m (need (λ i. got_literal i (literal_at s i)) tt f) (world o st)
      literal-fails e h k l p = arm-lost m (λ i. got_literal i (literal_at s i)) f o st mv w e (ap (got_literal st.place) (sym h ∙ k)) l p
