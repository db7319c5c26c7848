-- The members of the cycle of paths, types, constants and patterns meet their contracts.
use Rattle.printer.specs.Model as g
use Rattle.printer.proofs.StateLaws.{tests, none_here, room-here}
use Rattle.printer.proofs.ArmLaws.{list-more}
use mathlib.Core.Bool.{not}
use Rattle.printer.proofs.CycleLaws.{Gap, IsLit, alts-more, binds-more, con-integer, con-lit, type-bare, type-splat}
use mathlib.Core.Path.{refl, ap, ◌∙◌}
use native.Mathlib.Omega.{arith}
use mathlib.Core.Logic.{inl, inr}
use Rattle.printer.specs.Lay.{at}
use Rattle.printer.specs.declared.state.Printer.{Printer}
use Rattle.printer.proofs.CycleLaws.{aim_rules, alt_rules, bn_rules, bor_rules, bs_rules, dt_rules, fld_rules, fnp_rules, imp_rules, ls_rules, nst_rules, oa_rules, ob_rules, og_rules, op_rules, trs_rules, tup_rules}
use Rattle.printer.proofs.state.Printer.+syntax.Goals as goal
use Rattle.printer.proofs.state.Printer.+syntax.Goals.{ct-in_default-via-then-b-lt81, ct-in_default-via-else-b-lt81+else-b-lt83, ct-in-65-1, ct-in_default+else-b-lt81+then-b-lt83, ty-then-behind-place, ty-else-behind-place}

pub alt-loop-self-preserved : goal.alt-loop-self-preserved
alt-loop-self-preserved t c = record { left = alts-more _ _ _ _ _ _ _ _ _ c.loop-self.invariant.left (none_here c.loop-self.self.st.status c.stopped.ensures c.if-stopped.false) _ c.if-turns-eq0.false c.eat-behind.ensures _ _ c.if-behind-at.false c.say.ensures.says c.pat.ensures.says; lent = c.pat.ensures.lent ∙ (c.say.ensures.lent ∙ c.loop-self.invariant.lent) }

pub bs-loop-self-preserved : goal.bs-loop-self-preserved
bs-loop-self-preserved t c = record { left = binds-more _ _ _ _ _ _ _ _ _ _ c.loop-self.invariant.left (none_here c.loop-self.self.st.status c.stopped.ensures c.if-stopped.false) _ c.if-turns-eq0.false c.eat-behind.ensures _ _ _ _ (room-here c.loop-self.self.st.status c.stopped.ensures c.if-stopped.false) c.if-behind-at.false c.go.ensures c.bd-named.ensures.says (ap not c.if-not-named.false); lent = c.bd-named.ensures.lent ∙ c.loop-self.invariant.lent }

pub ct-returns-in_default-clause-says : goal.ct-returns-in_default-clause-says
ct-returns-in_default-clause-says t c = let gap : Gap c.look-t.result.byte = record { first = λ e. elim c.in_default.branch [ ct-in_default-via-then-b-lt81 w ↦ absurd (omega (arith, e)) | ct-in_default-via-else-b-lt81+else-b-lt83 w ↦ absurd (omega (arith, e)) ]; second = λ e. elim c.in_default.branch [ ct-in_default-via-then-b-lt81 w ↦ absurd (omega (arith, e)) | ct-in_default-via-else-b-lt81+else-b-lt83 w ↦ absurd (omega (arith, e)) ] } in search (con-integer, tests, gap) depth 8

pub ct-returns-in-65-clause-says : goal.ct-returns-in-65-clause-says
ct-returns-in-65-clause-says t c = let lit : IsLit c.look-t.result.byte = elim c.in-65-1.branch [ ct-in-65-1 w ↦ record { is = inl w.in-65-1.keys1 } | ct-in_default+else-b-lt81+then-b-lt83 w ↦ record { is = inr (omega arith, omega arith) } ] in search (con-lit, tests, lit) depth 8

pub ls-loop-item-init : goal.ls-loop-item-init
unfolding g.list g.list_of
ls-loop-item-init t c = record { left = refl; turns = omega arith; lent = refl }

pub ls-loop-item-preserved : goal.ls-loop-item-preserved
ls-loop-item-preserved t c = record { left = list-more _ _ _ _ _ _ _ _ _ c.loop-item.invariant.left _ c.if-turns-eq0.false (none_here c.loop-item.self.st.status c.stopped.ensures c.if-stopped.false) c.eat-behind.ensures _ _ _ c.if-behind-at.false c.separator.ensures c.separator-in-loop-item.ensures.says c.one.ensures.says; turns = omega arith; lent = c.one.ensures.lent ∙ (c.separator-in-loop-item.ensures.lent ∙ c.loop-item.invariant.lent) }

pub ty-returns-clause-says : goal.ty-returns-clause-says
ty-returns-clause-says t c = elim c.if-behind-place.branch [ ty-then-behind-place w ↦ type-splat _ _ _ _ _ _ _ _ _ _ (room-here c.args.self.now.st.status c.stopped.ensures c.if-stopped.false) (none_here c.args.self.now.st.status c.stopped.ensures c.if-stopped.false) c.eat-behind.ensures c.bar.ensures.says _ w.if-behind-place.true w.go.ensures (ap (λ (p : Printer). at p) w.self-is ∙ w.say-then-behind-place.ensures.says) | ty-else-behind-place w ↦ type-bare _ _ _ _ _ _ _ _ _ _ (room-here c.args.self.now.st.status c.stopped.ensures c.if-stopped.false) (none_here c.args.self.now.st.status c.stopped.ensures c.if-stopped.false) c.eat-behind.ensures c.bar.ensures.says w.if-behind-place.false (ap (λ (p : Printer). at p) w.self-is) ]

pub aim-returns-clause-says : goal.aim-returns-clause-says
aim-returns-clause-says t c = search aim_rules depth 8

pub alt-returns-then-turns-eq0-clause-says : goal.alt-returns-then-turns-eq0-clause-says
alt-returns-then-turns-eq0-clause-says t c = search alt_rules depth 8

pub alt-returns-then-behind-at-clause-says : goal.alt-returns-then-behind-at-clause-says
alt-returns-then-behind-at-clause-says t c = search alt_rules depth 8

pub bn-returns-then-stopped-clause-says : goal.bn-returns-then-stopped-clause-says
bn-returns-then-stopped-clause-says t c = search bn_rules depth 8

pub bn-returns-in_default-clause-says : goal.bn-returns-in_default-clause-says
bn-returns-in_default-clause-says t c = search bn_rules depth 8

pub bn-returns-clause-says : goal.bn-returns-clause-says
bn-returns-clause-says t c = search bn_rules depth 8

pub bor-returns-then-more-clause-says : goal.bor-returns-then-more-clause-says
bor-returns-then-more-clause-says t c = search bor_rules depth 8

pub bor-returns-else-more-clause-says : goal.bor-returns-else-more-clause-says
bor-returns-else-more-clause-says t c = search bor_rules depth 8

pub bs-returns-then-turns-eq0-clause-says : goal.bs-returns-then-turns-eq0-clause-says
bs-returns-then-turns-eq0-clause-says t c = search bs_rules depth 8

pub bs-returns-then-not-named-clause-says : goal.bs-returns-then-not-named-clause-says
bs-returns-then-not-named-clause-says t c = search bs_rules depth 8

pub dt-returns-clause-says : goal.dt-returns-clause-says
unfolding g.dyn_trait
dt-returns-clause-says t c = search dt_rules depth 8

pub fld-returns-clause-says : goal.fld-returns-clause-says
fld-returns-clause-says t c = search fld_rules depth 8

pub fnp-returns-then-more-clause-says : goal.fnp-returns-then-more-clause-says
fnp-returns-then-more-clause-says t c = search fnp_rules depth 8

pub fnp-returns-else-more-clause-says : goal.fnp-returns-else-more-clause-says
fnp-returns-else-more-clause-says t c = search fnp_rules depth 8

pub imp-returns-clause-says : goal.imp-returns-clause-says
imp-returns-clause-says t c = search imp_rules depth 8

pub ls-returns-then-turns-eq0-clause-says : goal.ls-returns-then-turns-eq0-clause-says
ls-returns-then-turns-eq0-clause-says t c = search ls_rules depth 8

pub ls-returns-then-behind-at-clause-says : goal.ls-returns-then-behind-at-clause-says
ls-returns-then-behind-at-clause-says t c = search ls_rules depth 8

pub nst-returns-clause-says : goal.nst-returns-clause-says
nst-returns-clause-says t c = search nst_rules depth 8

pub oa-returns-then-left-eq0-clause-says : goal.oa-returns-then-left-eq0-clause-says
oa-returns-then-left-eq0-clause-says t c = search oa_rules depth 8

pub oa-returns-clause-says : goal.oa-returns-clause-says
oa-returns-clause-says t c = search oa_rules depth 8

pub ob-returns-in_default-clause-says : goal.ob-returns-in_default-clause-says
ob-returns-in_default-clause-says t c = search ob_rules depth 8

pub og-returns-clause-says : goal.og-returns-clause-says
og-returns-clause-says t c = search og_rules depth 8

pub op-returns-in_default-clause-says : goal.op-returns-in_default-clause-says
op-returns-in_default-clause-says t c = search op_rules depth 8

pub trs-returns-clause-says : goal.trs-returns-clause-says
trs-returns-clause-says t c = search trs_rules depth 8

pub tup-returns-clause-says : goal.tup-returns-clause-says
unfolding g.tuple
tup-returns-clause-says t c = search tup_rules depth 8
