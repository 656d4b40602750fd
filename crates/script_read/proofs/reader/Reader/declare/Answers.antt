use Rattle.std.proofs.Common.{◌≡◌, ◌∙◌, refl, nat_eq, [], ◌∷◌, ◌++◌}
use Rattle.std.specs.Cmp.Lexicographic.{pointwise}
use Rattle.indexmap.proofs.CallerLemmas.{insert_entry-new}
use Rattle.script_read.proofs.reader.Reader.declare.Goals as goal

pub returns : goal.returns
returns c =
    let k = c.args.self.now in
    let e : c.insert.new.self.entries ≡ k.names.entries ++ (c.args.name, c.args.declared)
    ∷ [] = c.in_ok-insert.ensures.entries
    ∙ insert_entry-new (pointwise nat_eq) k.names c.args.name c.args.declared c.requires in
    rw e refl
