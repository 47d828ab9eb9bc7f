use Rattle.std.proofs.Common.{sym, subst}
use Rattle.audit_model.specs.declared.facet.Facet.{Facet}
use Rattle.audit_model.specs.Verdicts.{weigh}
use Rattle.facet_paths.specs.Reads.{Reads}
use Rattle.pair_eval.proofs.facets.weigh_facet.Goals as goal

pub returns-in_ok-weighed-in-Attribute : goal.returns-in_ok-weighed-in-Attribute
returns-in_ok-weighed-in-Attribute g c =
    subst (λ (f : Facet). Reads (weigh c.args.schema.now f c.args.elem) (g.L.Look.seen c.args.look.now) c.in_ok-weighed-in-Attribute.weighed c.args.reads.now c.weigh_attribute.new.reads) (sym c.in-Attribute.is)
    (record { answer_is = c.in_ok-weighed-in-Attribute.ensures.weighed; reads_same = c.in_ok-weighed-in-Attribute.ensures.reads })

pub returns-in_ok-weighed-in-Property : goal.returns-in_ok-weighed-in-Property
returns-in_ok-weighed-in-Property g c =
    subst (λ (f : Facet). Reads (weigh c.args.schema.now f c.args.elem) (g.L.Look.seen c.args.look.now) c.in_ok-weighed-in-Property.weighed c.args.reads.now c.weigh_property.new.reads) (sym c.in-Property.is)
    (record { answer_is = c.in_ok-weighed-in-Property.ensures.weighed; reads_same = c.in_ok-weighed-in-Property.ensures.reads })

pub returns-in_ok-weighed-in-Classification : goal.returns-in_ok-weighed-in-Classification
returns-in_ok-weighed-in-Classification g c =
    subst (λ (f : Facet). Reads (weigh c.args.schema.now f c.args.elem) (g.L.Look.seen c.args.look.now) c.in_ok-weighed-in-Classification.weighed c.args.reads.now c.weigh_classification.new.reads) (sym c.in-Classification.is)
    (record { answer_is = c.in_ok-weighed-in-Classification.ensures.weighed; reads_same = c.in_ok-weighed-in-Classification.ensures.reads })

pub returns-in_ok-weighed-in-Material : goal.returns-in_ok-weighed-in-Material
returns-in_ok-weighed-in-Material g c =
    subst (λ (f : Facet). Reads (weigh c.args.schema.now f c.args.elem) (g.L.Look.seen c.args.look.now) c.in_ok-weighed-in-Material.weighed c.args.reads.now c.weigh_material.new.reads) (sym c.in-Material.is)
    (record { answer_is = c.in_ok-weighed-in-Material.ensures.weighed; reads_same = c.in_ok-weighed-in-Material.ensures.reads })

pub returns-in_ok-weighed-in-PartOf : goal.returns-in_ok-weighed-in-PartOf
returns-in_ok-weighed-in-PartOf g c =
    subst (λ (f : Facet). Reads (weigh c.args.schema.now f c.args.elem) (g.L.Look.seen c.args.look.now) c.in_ok-weighed-in-PartOf.weighed c.args.reads.now c.weigh_part_of.new.reads) (sym c.in-PartOf.is)
    (record { answer_is = c.in_ok-weighed-in-PartOf.ensures.weighed; reads_same = c.in_ok-weighed-in-PartOf.ensures.reads })
