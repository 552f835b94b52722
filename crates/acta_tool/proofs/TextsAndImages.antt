-- A text that means a model doesn't begin as an image does, and an image in any version is read as its model.
use Rattle.std.proofs.Common.{◌≡◌, ℕ, Bool, true, false, List, ◌++◌, take, drop, Ok, refl, sym, ap, ◌∙◌, true≢false, arith}
use Rattle.std.specs.Str.{bytes_eq}
use Rattle.std.proofs.lemmas.List.{take-append-drop}
use Rattle.std.proofs.lemmas.Slice.Eq.{bytes_eq-Decides}
use Rattle.acta_table.specs.declared.model.Parts.{Parts}
use Rattle.acta_table.specs.Typed.{AreOfModel}
use Rattle.acta_image.specs.Codes.{magic}
use Rattle.acta_image.specs.Reading.{loaded}
use Rattle.acta_image.specs.declared.version.ImageVersion.{ImageVersion}
use Rattle.acta_image.specs.declared.version.ImageVersion.TheVariants.{Two}
use Rattle.acta_image.specs.Spelling.{HasImageIn, image, image_in}
use Rattle.acta_image.proofs.Images.{image-again, written-again}
use Rattle.acta_lang.specs.Meaning.{meaning}
use Rattle.acta_lang.proofs.OtherWords.{no_meaning}
use Rattle.acta_tool.specs.declared.args.Command.{Command}
use Rattle.acta_tool.specs.declared.args.Command.TheVariants.{Assemble, CheckImage, Upgrade, Run, Trace, Judge, Debug, Serial, Drive}
use Rattle.acta_io.specs.Models.{is_image, of_either, of_image}
use Rattle.acta_tool.specs.Models.{takes_either}
use Rattle.acta_tool.specs.Output.{output_by, tool_output}

same-true : (xs ys : List ℕ) → bytes_eq xs ys ≡ true → xs ≡ ys
same-true xs ys e = grind (arith, bytes_eq-Decides xs ys)

text_is_no_image : {A : Type 0} (text : List ℕ) (m : Parts A) → meaning text ≡ Ok m → is_image text ≡ false
text_is_no_image {A} text m means = of_test (is_image text) refl
  where
    of_test : (b : Bool) → is_image text ≡ b → is_image text ≡ false
    of_test false is = is
    of_test true is =
        let parts : text ≡ magic ++ drop 4 text = sym (take-append-drop 4 text) ∙ ap (λ (front : List ℕ). front ++ drop 4 text) (same-true (take 4 text) magic is) in
        absurd (true≢false (no_meaning (drop 4 text) m (sym (ap (λ (bytes : List ℕ). meaning {A = A} bytes) parts) ∙ means)))

image_is_image : {A : Type 0} (version : ImageVersion) (m : Parts A) → is_image (image_in version m) ≡ true
unfolding image_in
image_is_image version m = refl

-- the model that is loaded from an image is the image's model
pub loaded_is : {A : Type 0} (m n : Parts A) → AreOfModel m → loaded (image m) ≡ Ok n → n ≡ m
loaded_is m n known is = let again : loaded (image m) ≡ Ok m = written-again m known in cc

-- the same model is found in an image as in a text of its model
pub found_equivalent : {A : Type 0} (text : List ℕ) (m : Parts A) → meaning text ≡ Ok m → AreOfModel m → of_either {A = A} (image m) ≡ of_either text
found_equivalent {A} text m means known =
    rw (image_is_image Two m, text_is_no_image text m means, written-again m known, means) refl

-- the model of an image in any version, by a command that takes no text, and by one that does
pub found_in : {A : Type 0} (version : ImageVersion) (m : Parts A) → AreOfModel m → HasImageIn version m → of_image (loaded (image_in version m)) ≡ Ok m
found_in version m known has = rw (image-again version m known has) refl

pub found_in_both : {A : Type 0} (version : ImageVersion) (m : Parts A) → AreOfModel m → HasImageIn version m → of_either {A = A} (image_in version m) ≡ of_either (image m)
found_in_both {A} version m known has =
    rw (image_is_image version m, image_is_image Two m, image-again version m known has, written-again m known) refl

-- a command that takes texts and images equivalent writes the same for bytes in which these find the same model
pub written_equivalent : {A : Type 0} (command : Command) (one other input : List ℕ) → of_either {A = A} one ≡ of_either other → takes_either command ≡ true → tool_output A command one input ≡ tool_output A command other input
written_equivalent Assemble one other input same takes = absurd (true≢false (sym takes))
written_equivalent CheckImage one other input same takes = absurd (true≢false (sym takes))
written_equivalent Upgrade one other input same takes = absurd (true≢false (sym takes))
written_equivalent (Run kept) one other input same takes = ap (λ found. output_by (Run kept) found input) same
written_equivalent Trace one other input same takes = ap (λ found. output_by Trace found input) same
written_equivalent Judge one other input same takes = ap (λ found. output_by Judge found input) same
written_equivalent Debug one other input same takes = ap (λ found. output_by Debug found input) same
written_equivalent Serial one other input same takes = ap (λ found. output_by Serial found input) same
written_equivalent (Drive workers turns) one other input same takes = ap (λ found. output_by (Drive workers turns) found input) same
