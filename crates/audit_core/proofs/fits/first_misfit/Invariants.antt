-- the instances so far fit, so the first that doesn't is among those that are left
use Rattle.std.proofs.Common.{◌≡◌, drop, map}
use Rattle.audit_core.specs.Fitting.{misfit_fault}
use Rattle.audit_core.proofs.fits.first_misfit.Given as goal

abbrev pub invariant-loop-instance : goal.invariant-loop-instance
invariant-loop-instance l = misfit_fault l.schema (map (λ x. x.now) l.instances) ≡ misfit_fault l.schema (map (λ x. x.now) (drop l.instance-index l.instances))
