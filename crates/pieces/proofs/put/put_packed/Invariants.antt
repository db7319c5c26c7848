-- What the loop of `pieces::put::put_packed` keeps: what is left to write fits the bytes that are left of a `u64`.
use Prim.Native.Nat.{◌-◌, ◌^◌, ◌<◌}
use Rattle.pieces.proofs.WritingLaws.{Going}
use Rattle.pieces.specs.Packed.{bytes_of}
use Rattle.pieces.proofs.put.put_packed.Given as goal

abbrev pub invariant-loop-i : goal.invariant-loop-i
invariant-loop-i l = Going (bytes_of l.v) (bytes_of l.left) l.initial.out l.out l.i × (l.left < 256 ^ (8 - l.i))
