-- What falls in the cycle of paths, types, constants and patterns, and what its loops keep.
use Rattle.printer.proofs.CycleLaws.{rank}
use Rattle.std.proofs.Common.{◌+◌, ◌*◌, ◌≡◌, length}
use Rattle.printer.specs.Lay.{at, lay, lays, follows}
use Rattle.printer.specs.Model as g
use Rattle.printer.proofs.state.Printer.+syntax.Given as goal

abbrev pub decreases-adt : goal.decreases-adt
decreases-adt l = 32 * l.left + 7

abbrev pub decreases-aim : goal.decreases-aim
decreases-aim l = 32 * l.left + 0

abbrev pub decreases-alt : goal.decreases-alt
decreases-alt l = 32 * l.left + 3

abbrev pub decreases-arg : goal.decreases-arg
decreases-arg l = 32 * l.left + 2

abbrev pub decreases-arr : goal.decreases-arr
decreases-arr l = 32 * l.left + 2

abbrev pub decreases-bar : goal.decreases-bar
decreases-bar l = 32 * l.left + 0

abbrev pub decreases-bd : goal.decreases-bd
decreases-bd l = 32 * l.left + 4

abbrev pub decreases-bk : goal.decreases-bk
decreases-bk l = 32 * l.left + 1

abbrev pub decreases-bn : goal.decreases-bn
decreases-bn l = 32 * l.left + 3

abbrev pub decreases-bod : goal.decreases-bod
decreases-bod l = 32 * l.left + 4

abbrev pub decreases-bor : goal.decreases-bor
decreases-bor l = 32 * l.left + 2

abbrev pub decreases-brc : goal.decreases-brc
decreases-brc l = 32 * l.left + 5

abbrev pub decreases-bs : goal.decreases-bs
decreases-bs l = 32 * l.left + 5

abbrev pub decreases-bt : goal.decreases-bt
decreases-bt l = 32 * l.left + 2

abbrev pub decreases-con : goal.decreases-con
decreases-con l = 32 * l.left + 0

abbrev pub decreases-ct : goal.decreases-ct
decreases-ct l = 32 * l.left + 8

abbrev pub decreases-dt : goal.decreases-dt
decreases-dt l = 32 * l.left + 7

abbrev pub decreases-fl : goal.decreases-fl
decreases-fl l = 32 * l.left + rank l.item + 4

abbrev pub decreases-fld : goal.decreases-fld
decreases-fld l = 32 * l.left + 1

abbrev pub decreases-fnp : goal.decreases-fnp
decreases-fnp l = 32 * l.left + 5

abbrev pub decreases-gns : goal.decreases-gns
decreases-gns l = 32 * l.left + 5

abbrev pub decreases-imp : goal.decreases-imp
decreases-imp l = 32 * l.left + 3

abbrev pub decreases-lit : goal.decreases-lit
decreases-lit l = 32 * l.left + 6

abbrev pub decreases-ls : goal.decreases-ls
decreases-ls l = 32 * l.left + rank l.item + 2

abbrev pub decreases-nam : goal.decreases-nam
decreases-nam l = 32 * l.left + 1

abbrev pub decreases-nst : goal.decreases-nst
decreases-nst l = 32 * l.left + 1

abbrev pub decreases-oa : goal.decreases-oa
decreases-oa l = 32 * l.left + 0

abbrev pub decreases-ob : goal.decreases-ob
decreases-ob l = 32 * l.left + 1

abbrev pub decreases-obj : goal.decreases-obj
decreases-obj l = 32 * l.left + 11

abbrev pub decreases-og : goal.decreases-og
decreases-og l = 32 * l.left + 5

abbrev pub decreases-one : goal.decreases-one
decreases-one l = 32 * l.left + rank l.item + 1

abbrev pub decreases-op : goal.decreases-op
decreases-op l = 32 * l.left + 6

abbrev pub decreases-ors : goal.decreases-ors
decreases-ors l = 32 * l.left + 0

abbrev pub decreases-par : goal.decreases-par
decreases-par l = 32 * l.left + 4

abbrev pub decreases-pat : goal.decreases-pat
decreases-pat l = 32 * l.left + 2

abbrev pub decreases-path : goal.decreases-path
decreases-path l = 32 * l.left + 0

abbrev pub decreases-pt : goal.decreases-pt
decreases-pt l = 32 * l.left + 6

abbrev pub decreases-ptr : goal.decreases-ptr
decreases-ptr l = 32 * l.left + 2

abbrev pub decreases-ret : goal.decreases-ret
decreases-ret l = 32 * l.left + 3

abbrev pub decreases-rk : goal.decreases-rk
decreases-rk l = 32 * l.left + 1

abbrev pub decreases-rng : goal.decreases-rng
decreases-rng l = 32 * l.left + 1

abbrev pub decreases-see : goal.decreases-see
decreases-see l = 32 * l.left + 2

abbrev pub decreases-seq : goal.decreases-seq
decreases-seq l = 32 * l.left + rank l.item + 3

abbrev pub decreases-slf : goal.decreases-slf
decreases-slf l = 32 * l.left + 2

abbrev pub decreases-sub : goal.decreases-sub
decreases-sub l = 32 * l.left + 3

abbrev pub decreases-sz : goal.decreases-sz
decreases-sz l = 32 * l.left + 1

abbrev pub decreases-trs : goal.decreases-trs
decreases-trs l = 32 * l.left + 10

abbrev pub decreases-trt : goal.decreases-trt
decreases-trt l = 32 * l.left + 1

abbrev pub decreases-tup : goal.decreases-tup
decreases-tup l = 32 * l.left + rank l.item + 3

abbrev pub decreases-ty : goal.decreases-ty
decreases-ty l = 32 * l.left + 1

abbrev pub decreases-tys : goal.decreases-tys
decreases-tys l = 32 * l.left + 12

abbrev pub decreases-var : goal.decreases-var
decreases-var l = 32 * l.left + 6

abbrev pub invariant-alt-loop-self : goal.invariant-alt-loop-self
invariant-alt-loop-self l = record {
  left : lay l.mode (g.alternatives l.s (g.level l.s l.left) (length l.s) (follows l.mode) l.binder) (at l.initial.self) ≡ lay l.mode (g.alternatives l.s (g.level l.s l.left) l.turns (follows l.mode) l.binder) (at l.self);
  lent : l.self.out.ghost_name ≡ l.initial.self.out.ghost_name;
}

abbrev pub decreases-alt-loop-self : goal.decreases-alt-loop-self
decreases-alt-loop-self l = l.turns

abbrev pub invariant-bs-loop-self : goal.invariant-bs-loop-self
invariant-bs-loop-self l = record {
  left : lay l.mode (g.bindings l.s (g.level l.s l.left) (length l.s) l.is_open (follows l.mode) l.binder) (at l.initial.self) ≡ lay l.mode (g.bindings l.s (g.level l.s l.left) l.turns l.opened (follows l.mode) l.binder) (at l.self);
  lent : l.self.out.ghost_name ≡ l.initial.self.out.ghost_name;
}

abbrev pub decreases-bs-loop-self : goal.decreases-bs-loop-self
decreases-bs-loop-self l = l.turns

abbrev pub invariant-ls-loop-item : goal.invariant-ls-loop-item
invariant-ls-loop-item l = record {
  left : lays 0 l.mode (g.list l.s (g.level l.s l.left) l.item (follows l.mode) l.binder) (at l.initial.self) ≡ lays 0 l.mode (g.list_n l.s (g.sep_of l.item) (g.element l.s (g.level l.s l.left) l.item (follows l.mode) l.binder) l.turns l.i) (at l.self);
  turns : l.i + l.turns ≡ length l.s;
  lent : l.self.out.ghost_name ≡ l.initial.self.out.ghost_name;
}

abbrev pub decreases-ls-loop-item : goal.decreases-ls-loop-item
decreases-ls-loop-item l = l.turns
