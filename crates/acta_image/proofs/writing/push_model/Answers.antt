use Rattle.std.proofs.Common.{◌≡◌, ◌∙◌, ◌++◌, List, ℕ, ap, arith, length, sym}
use Rattle.std.proofs.lemmas.Grind.{common_steps}
use Rattle.std.proofs.lemmas.List.{append_assoc}
use Rattle.std.proofs.lemmas.Result.{IfOk-equal}
use Rattle.std.specs.List.{flat_map}
use Rattle.acta_image.specs.declared.version.ImageVersion.TheVariants.{Two}
use Rattle.acta_image.specs.Spelling.{class_bytes, head, image, image_in, object_bytes}
use Rattle.acta_image.proofs.writing.push_model.Goals as goal

pub overflow_cast-classes : goal.overflow_cast-classes
overflow_cast-classes g c = grind (arith, common_steps)

pub overflow_cast-objects : goal.overflow_cast-objects
overflow_cast-objects g c = grind (arith, common_steps)

pub push_objects-requires : goal.push_objects-requires
push_objects-requires g c = rw c.objects-objects.ensures.objects c.requires.objects

pub push_classes-requires : goal.push_classes-requires
push_classes-requires g c = rw c.classes-classes.ensures.classes c.requires.classes

pub returns : goal.returns
unfolding image_in
returns g c =
    let before = c.args.bytes.now.items in
    let begun = head Two (length c.classes-classes.result.now) (length c.objects-objects.result.now) in
    let objects = flat_map object_bytes c.objects-objects.result.now in
    let classes = flat_map class_bytes c.classes-classes.result.now in
    let pushed : c.push_objects.new.image.items ≡ (before ++ begun) ++ objects =
    c.in_ok-push_objects.ensures ∙ ap (λ (l : List ℕ). l ++ objects) c.in_ok-push_head.ensures in
    let all : c.push_objects.new.image.items ++ classes ≡ before ++ (begun ++ (objects ++ classes)) =
    ap (λ (l : List ℕ). l ++ classes) pushed ∙ (append_assoc (before ++ begun) objects classes ∙ append_assoc before begun (objects ++ classes)) in
    IfOk-equal c.push_classes.result c.push_classes.new.image.items (c.push_objects.new.image.items ++ classes) (before ++ image c.args.model.now) c.push_classes.ensures
    (rw (sym c.classes-classes.ensures.classes, sym c.objects-objects.ensures.objects) all)
