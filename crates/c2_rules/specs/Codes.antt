-- Codes of rules that fail, as reports print them (C2PA Technical Specification 2.x, "Status codes"). Those that begin `profile.`
-- or `unsupported.` are this project's own.
use Rattle.std.specs.Prelude.{ℕ, Bool, List, codes, eqb}
use Rattle.std.specs.List.{starts_with}
use Rattle.c2_rules.specs.declared.code.Code.{Code}
use Rattle.c2_rules.specs.declared.code.Code.TheVariants.{
  UnsupportedUpdateActive,
  ClaimMissing,
  ClaimMultiple,
  UnsupportedClaimVersion,
  ClaimCborInvalid,
  ProfileClaimFields,
  ClaimSignatureMissing,
  ProfileSignatureForm,
  ClaimSignatureMismatch,
  SigningCredentialUntrusted,
  SigningCredentialInvalid,
  ProfileVerdictMissing,
  AlgorithmUnsupported,
  ProfileIngredientSignature,
  IngredientManifestMismatch,
  ProfileAssertionUri,
  UnsupportedCloudData,
  AssertionNotRedacted,
  AssertionMissing,
  AssertionHashedUriMismatch,
  AssertionUndeclared,
  ProfileRedactionUri,
  AssertionSelfRedacted,
  AssertionActionRedacted,
  ProfileRedactionBinding,
  UnsupportedRedactIngredient,
  UnsupportedHashKind,
  ClaimHardBindingsMissing,
  AssertionMultipleHardBindings,
  ManifestMultipleParents,
  ManifestUpdateInvalid,
  ManifestUpdateWrongParents,
  UnsupportedIngredientVersion,
  AssertionCborInvalid,
  ProfileIngredientForm,
  IngredientManifestMissing,
  UnsupportedIngredientOrder,
  UnsupportedMerkle,
  ProfileHashForm,
  UnsupportedTooManyExclusions,
  UnsupportedExclusionTest,
  UnsupportedExclusionPath,
  AssertionDataHashMismatch,
  AssertionBmffHashMismatch,
  ProfileRedactionTarget,
}

-- the spelling of a code
abbrev pub code_name : Code → List ℕ
code_name UnsupportedUpdateActive = codes "unsupported.updateActive"
code_name ClaimMissing = codes "claim.missing"
code_name ClaimMultiple = codes "claim.multiple"
code_name UnsupportedClaimVersion = codes "unsupported.claimVersion"
code_name ClaimCborInvalid = codes "claim.cbor.invalid"
code_name ProfileClaimFields = codes "profile.claim.fields"
code_name ClaimSignatureMissing = codes "claimSignature.missing"
code_name ProfileSignatureForm = codes "profile.signature.form"
code_name ClaimSignatureMismatch = codes "claimSignature.mismatch"
code_name SigningCredentialUntrusted = codes "signingCredential.untrusted"
code_name SigningCredentialInvalid = codes "signingCredential.invalid"
code_name ProfileVerdictMissing = codes "profile.verdict.missing"
code_name AlgorithmUnsupported = codes "algorithm.unsupported"
code_name ProfileIngredientSignature = codes "profile.ingredient.signature"
code_name IngredientManifestMismatch = codes "ingredient.manifest.mismatch"
code_name ProfileAssertionUri = codes "profile.assertion.uri"
code_name UnsupportedCloudData = codes "unsupported.cloudData"
code_name AssertionNotRedacted = codes "assertion.notRedacted"
code_name AssertionMissing = codes "assertion.missing"
code_name AssertionHashedUriMismatch = codes "assertion.hashedURI.mismatch"
code_name AssertionUndeclared = codes "assertion.undeclared"
code_name ProfileRedactionUri = codes "profile.redaction.uri"
code_name AssertionSelfRedacted = codes "assertion.selfRedacted"
code_name AssertionActionRedacted = codes "assertion.action.redacted"
code_name ProfileRedactionBinding = codes "profile.redaction.binding"
code_name UnsupportedRedactIngredient = codes "unsupported.redactIngredient"
code_name UnsupportedHashKind = codes "unsupported.hashKind"
code_name ClaimHardBindingsMissing = codes "claim.hardBindings.missing"
code_name AssertionMultipleHardBindings = codes "assertion.multipleHardBindings"
code_name ManifestMultipleParents = codes "manifest.multipleParents"
code_name ManifestUpdateInvalid = codes "manifest.update.invalid"
code_name ManifestUpdateWrongParents = codes "manifest.update.wrongParents"
code_name UnsupportedIngredientVersion = codes "unsupported.ingredientVersion"
code_name AssertionCborInvalid = codes "assertion.cbor.invalid"
code_name ProfileIngredientForm = codes "profile.ingredient.form"
code_name IngredientManifestMissing = codes "ingredient.manifest.missing"
code_name UnsupportedIngredientOrder = codes "unsupported.ingredientOrder"
code_name UnsupportedMerkle = codes "unsupported.merkle"
code_name ProfileHashForm = codes "profile.hash.form"
code_name UnsupportedTooManyExclusions = codes "unsupported.tooManyExclusions"
code_name UnsupportedExclusionTest = codes "unsupported.exclusionTest"
code_name UnsupportedExclusionPath = codes "unsupported.exclusionPath"
code_name AssertionDataHashMismatch = codes "assertion.dataHash.mismatch"
code_name AssertionBmffHashMismatch = codes "assertion.bmffHash.mismatch"
code_name ProfileRedactionTarget = codes "profile.redaction.target"

-- a code of what isn't supported
abbrev pub is_unsupported : Code → Bool
is_unsupported code = starts_with eqb (code_name code) (codes "unsupported.")
