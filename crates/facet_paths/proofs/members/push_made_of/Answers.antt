use Rattle.std.proofs.Common.{ℕ, List, [], ◌∷◌, sym, codes, option_copied}
use Rattle.std.specs.Str.{chars}
use Rattle.std.proofs.lemmas.List.{append-nil}
use Rattle.audit_model.specs.Hops.{references_in}
use Rattle.facet_paths.proofs.Paths.{reach_more}
use Rattle.facet_paths.proofs.members.push_made_of.Goals as goal

pub returns : goal.returns
unfolding chars
returns c =
    let f : List ℕ → List ℕ = references_in c.args.schema.now (option_copied c.args.of) in
    let z : List ℕ = c.args.ends.now.items in
    let more = reach_more f z in
    let one = more z c.push_refs.new.ends.items [] (codes "ForLayerSet") (sym (append-nil z)) c.in_ok-push_refs.ensures in
    let two = more _ c.push_refs-2.new.ends.items (codes "ForLayerSet" ∷ []) (codes "MaterialLayers") one c.in_ok-push_refs-2.ensures in
    let three = more _ c.push_refs-3.new.ends.items (codes "ForLayerSet" ∷ codes "MaterialLayers" ∷ []) (codes "ForProfileSet") two c.in_ok-push_refs-3.ensures in
    let four = more _ c.push_refs-4.new.ends.items (codes "ForLayerSet" ∷ codes "MaterialLayers" ∷ codes "ForProfileSet" ∷ []) (codes "MaterialProfiles") three c.in_ok-push_refs-4.ensures in
    let five = more _ c.push_refs-5.new.ends.items (codes "ForLayerSet" ∷ codes "MaterialLayers" ∷ codes "ForProfileSet" ∷ codes "MaterialProfiles" ∷ []) (codes "MaterialConstituents") four c.in_ok-push_refs-5.ensures in
    let six = more _ c.push_refs-6.new.ends.items (codes "ForLayerSet" ∷ codes "MaterialLayers" ∷ codes "ForProfileSet" ∷ codes "MaterialProfiles" ∷ codes "MaterialConstituents" ∷ []) (codes "Materials") five c.in_ok-push_refs-6.ensures in
    more _ c.push_refs-7.new.ends.items (codes "ForLayerSet" ∷ codes "MaterialLayers" ∷ codes "ForProfileSet" ∷ codes "MaterialProfiles" ∷ codes "MaterialConstituents" ∷ codes "Materials" ∷ []) (codes "Material") six c.in_ok-push_refs-7.ensures
